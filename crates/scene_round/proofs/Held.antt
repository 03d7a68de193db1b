-- A list that stands in another from a place on. Assumes nothing.
use mathlib.Core.Path.{◌≡◌, refl, sym, ap, subst, ◌∙◌}
use mathlib.Core.List.{List, [], ◌++◌, map, append_assoc, map-append}
use Prim.Native.Nat.{ℕ, ◌+◌, ◌≤◌}
use native.Mathlib.Omega.{arith}
use lib.ListN.{length, length-append, length-map}
use lib.Seq.{take-append_seam, drop_at}
use Rattle.model.specs.Lists.{part}

pub record Held {A : Type 0} (xs l : List A) (at : ℕ) : Type 0 where
  pub before : List A
  pub behind : List A
  pub long : length before ≡ at
  pub split : l ≡ before ++ (xs ++ behind)

module _ {A : Type 0} where
  pub held-part : {xs l : List A} {at : ℕ} → Held xs l at → part l at (length xs) ≡ xs
  held-part {xs} {l} {at} h =
      ap (λ (l : List A). part l at (length xs)) h.split
      ∙ ap (λ (l : List A). part l 0 (length xs)) (drop_at h.before (xs ++ h.behind) at h.long)
      ∙ take-append_seam xs h.behind

  pub held-within : {xs l : List A} {at : ℕ} → Held xs l at → at + length xs ≤ length l
  held-within {xs} {l} {at} h =
      omega (
        arith,
        h.long,
        ap length h.split,
        length-append h.before (xs ++ h.behind),
        length-append xs h.behind,
      )

  pub held_at : {xs l : List A} {a b : ℕ} → a ≡ b → Held xs l a → Held xs l b
  held_at {xs} {l} e h = subst (Held xs l) e h

  -- at the start, with more behind, with more before, and in a list that stands in another itself

  pub held_first : (xs more : List A) → Held xs (xs ++ more) 0
  held_first xs more = record { before = []; behind = more; long = refl; split = refl }

  pub held-before : {xs l : List A} {at : ℕ} (more : List A) → Held xs l at → Held xs (l ++ more) at
  held-before {xs} more h = record {
    before = h.before;
    behind = h.behind ++ more;
    long = h.long;
    split =
        ap (λ (l : List A). l ++ more) h.split
        ∙ append_assoc h.before (xs ++ h.behind) more
        ∙ ap (λ (l : List A). h.before ++ l) (append_assoc xs h.behind more);
  }

  pub held-behind : {xs l : List A} {at : ℕ} (more : List A) → Held xs l at → Held xs (more ++ l) (length more + at)
  held-behind {xs} more h = record {
    before = more ++ h.before;
    behind = h.behind;
    long = length-append more h.before ∙ ap (λ (n : ℕ). length more + n) h.long;
    split =
        ap (λ (l : List A). more ++ l) h.split ∙ sym (append_assoc more h.before (xs ++ h.behind));
  }

  pub held_in : {xs l m : List A} {a b : ℕ} → Held xs l a → Held l m b → Held xs m (b + a)
  held_in {xs} {a = a} {b = b} g h =
      subst (λ (m : List A). Held xs m (b + a)) (sym h.split)
      (held_at (ap (λ (n : ℕ). n + a) h.long) (held-behind h.before (held-before h.behind g)))

pub held-map : {A B : Type 0} (g : A → B) {xs l : List A} {at : ℕ} → Held xs l at → Held (map g xs) (map g l) at
held-map g {xs} h = record {
  before = map g h.before;
  behind = map g h.behind;
  long = length-map h.before g ∙ h.long;
  split =
      ap (map g) h.split
      ∙ map-append g h.before (xs ++ h.behind)
      ∙ ap (λ (l : List _). map g h.before ++ l) (map-append g xs h.behind);
}
