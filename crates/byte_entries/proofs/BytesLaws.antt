-- A placing on bytes that is refused, and one that is accepted. Assumes nothing.
use mathlib.Core.Path.{◌≡◌, sym, ap, ◌∙◌, subst}
use mathlib.Core.Bool.{Bool}
use mathlib.Core.List.{List}
use Prim.Native.Nat.{ℕ}
use borrow.Author.Tests.{eq-eqb, ne_eqb}
use lib.Ieee.{Float}
use Rattle.borrowed.specs.Slices.{Change}
use Rattle.model.specs.Lists.{pick}
use Rattle.model.specs.Placing.{taken}
use Rattle.model.specs.Refusals.{place_number}
use Rattle.model.proofs.Numbers.{neither-drawn}
use Rattle.tables.specs.declared.Header.{Header}
use Rattle.tables.specs.Decoded.{Lent, scene_of}
use Rattle.checks.specs.Drawn.{tables_number}
use Rattle.worlds.specs.declared.Answer.{Answer}
use Rattle.lent_bytes.specs.Bytes.{SceneBytes, Decoding, lent_by, drawn_by, decoded_to}
use Rattle.byte_checks.specs.Numbers.{place_in}
use Rattle.byte_placing.specs.Placed.{Room, scratch_in, placed_to, PlacedIn}
use Rattle.byte_entries.specs.Placed.{PlacedBytes}

module _ (b : SceneBytes) (h : Header) (marks : List ℕ) (slots : List Float) (d : Decoding) (n : ℕ) where
  abbrev l : Lent
  l = lent_by b h

  pub refused-bytes : (r : Room) → n ≡ place_in (drawn_by b d) l (scratch_in marks slots r) → (n ≡ 0 → ⊥)
      → PlacedBytes b h marks slots (record { from = d; to = d }) (record { from = r; to = r }) (record { number = n; taken = 0 })
  refused-bytes r p some =
      let f = sym (ne_eqb n 0 some) in
      record {
        placed = record {
          number = p;
          entries = ap (λ (x : Bool). pick x (taken (scene_of l)) 0) f;
          slices = ap (λ (x : Bool). pick x (placed_to l marks slots r) r) f;
        };
        decoded = ap (λ (x : Bool). pick x (decoded_to b d) d) f;
      }

  module _ (c : Change Room) (p : n ≡ place_in (drawn_by b d) l (scratch_in marks slots c.from)) (z : n ≡ 0) where
    -- the room is long enough
    pub long-enough : drawn_by b d ≡ 0
    long-enough =
        (neither-drawn (place_number (tables_number l) (scene_of l) (scratch_in marks slots c.from)) (drawn_by b d)
        (sym p ∙ z)).1

    pub placed-bytes : (left : Decoding) (a : Answer) → left ≡ decoded_to b d → PlacedIn 0 l marks slots c a
        → PlacedBytes b h marks slots (record { from = d; to = left }) c a
    placed-bytes left a e k =
        let q = subst (λ (g : ℕ). PlacedIn g l marks slots c a) (sym long-enough) k in
        record {
          placed = q;
          decoded = e ∙ ap (λ (x : Bool). pick x (decoded_to b d) d) (sym (eq-eqb a.number 0 (q.number ∙ sym p ∙ z)));
        }

-- of an equal scene
pub same-lent : {l m : Lent} {marks : List ℕ} {slots : List Float} {c : Change Room} {a : Answer} → l ≡ m
    → PlacedIn 0 l marks slots c a → PlacedIn 0 m marks slots c a
same-lent {marks = marks} {slots = slots} {c = c} {a = a} e k = subst (λ (x : Lent). PlacedIn 0 x marks slots c a) e k
