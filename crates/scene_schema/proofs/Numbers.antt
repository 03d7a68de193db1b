-- The schema in numbers is the schema, by computation over each kind and each slot. Assumes nothing.
use mathlib.Core.Path.{◌≡◌, refl}
use mathlib.Core.Bool.{Bool}
use mathlib.Core.List.{List, [], ◌∷◌}
use Prim.Native.Nat.{ℕ, zero, suc, ◌+◌, ◌*◌, ◌≤◌, ◌<◌}
use lib.Dec.{T, leb, leb→le}
use lib.ListN.{length, get_or}
use Rattle.model.specs.Lists.{every, tabulate}
use Rattle.grammar.specs.Parsed.{value_of, code_of, lettered, apart, distinct, kinds_apart, readable}
use Rattle.grammar.proofs.Words.{both}
use Rattle.scene_schema.specs.Schema.{kinds, kind_at, slot_at, no_kind}
use Rattle.scene_schema.specs.Numbers.{titles, slot_counts, strides, slot_names, slot_rules, no_name, no_rule}
use Rattle.scene_schema.specs.Numbers.{size_for, sort_of}
use Rattle.scene_schema.proofs.Tables.{at_each}

-- the kinds and their slots can be told apart
pub kinds-readable : T (readable kinds)
unfolding readable kinds lettered distinct apart kinds_apart value_of
kinds-readable = tt

pub record SlotTold (k j : ℕ) : Type 0 where
  pub code : (get_or slot_names (16 * k + j) no_name).code ≡ code_of (slot_at k j).name
  pub letters : (get_or slot_names (16 * k + j) no_name).letters ≡ (slot_at k j).name
  pub sort : sort_of (get_or slot_rules (16 * k + j) no_rule).pool ≡ (slot_at k j).sort
  pub size : size_for (get_or slot_rules (16 * k + j) no_rule) ≡ (slot_at k j).size
  pub group : (get_or slot_rules (16 * k + j) no_rule).one_of ≡ (slot_at k j).one_of

pub record KindTold (k : ℕ) : Type 0 where
  pub title : (get_or titles k no_name).code ≡ code_of (kind_at k).title
  pub letters : (get_or titles k no_name).letters ≡ (kind_at k).title
  pub count : get_or slot_counts k 0 ≡ length (kind_at k).slots
  pub few : length (kind_at k).slots ≤ 16
  pub slots : (j : ℕ) → j < length (kind_at k).slots → SlotTold k j

-- a test that each entry and the default pass
every-at : {A : Type 0} (p : A → Bool) (d : A) → T (p d) → (l : List A) → T (every p l) → (i : ℕ) → T (p (get_or l i d))
unfolding every
every-at p d t [] e i = t
every-at p d t (x ∷ l) e zero = (both (p x) (every p l) e).0
every-at p d t (x ∷ l) e (suc i) = every-at p d t l (both (p x) (every p l) e).1 i

-- f at each slot of kind k
abbrev over_slots : {A : Type 0} → (ℕ → ℕ → A) → ℕ → List A
over_slots f k = tabulate (length (kind_at k).slots) (f k)

at_slots : {A : Type 0} (f g : ℕ → ℕ → A) → tabulate 9 (over_slots f) ≡ tabulate 9 (over_slots g)
    → (k j : ℕ) → k < 9 → j < length (kind_at k).slots → f k j ≡ g k j
at_slots f g e k j h = at_each _ (f k) (g k) (at_each 9 (over_slots f) (over_slots g) e k h) j

slot_is : (k j : ℕ) → k < 9 → j < length (kind_at k).slots → SlotTold k j
unfolding tabulate kinds value_of
slot_is k j h l = record {
  code =
      at_slots (λ k j. (get_or slot_names (16 * k + j) no_name).code) (λ k j. code_of (slot_at k j).name) refl k j h l;
  letters = at_slots (λ k j. (get_or slot_names (16 * k + j) no_name).letters) (λ k j. (slot_at k j).name) refl k j h l;
  sort = at_slots (λ k j. sort_of (get_or slot_rules (16 * k + j) no_rule).pool) (λ k j. (slot_at k j).sort) refl k j h l;
  size = at_slots (λ k j. size_for (get_or slot_rules (16 * k + j) no_rule)) (λ k j. (slot_at k j).size) refl k j h l;
  group = at_slots (λ k j. (get_or slot_rules (16 * k + j) no_rule).one_of) (λ k j. (slot_at k j).one_of) refl k j h l;
}

pub kind-is : (k : ℕ) → k < 9 → KindTold k
unfolding tabulate every kinds value_of
kind-is k h = record {
  title = at_each 9 (λ k. (get_or titles k no_name).code) (λ k. code_of (kind_at k).title) refl k h;
  letters = at_each 9 (λ k. (get_or titles k no_name).letters) (λ k. (kind_at k).title) refl k h;
  count = at_each 9 (λ k. get_or slot_counts k 0) (λ k. length (kind_at k).slots) refl k h;
  few = leb→le _ 16 (every-at (λ kind. leb (length kind.slots) 16) no_kind tt kinds tt k);
  slots = λ j. slot_is k j h;
}

pub stride_few : (k : ℕ) → get_or strides k 0 ≤ 16
unfolding every
stride_few k = leb→le _ 16 (every-at (λ n. leb n 16) 0 tt strides tt k)
