-- Entries that are decoded into a room, one slice after the other. Assumes nothing.
use mathlib.Core.Path.{◌≡◌, refl, sym, ap, ◌∙◌}
use mathlib.Core.List.{List, [], ◌++◌, append-nil, append_assoc}
use Prim.Native.Nat.{ℕ, ◌+◌, ◌-◌, ◌/◌, ◌≤◌, ◌<◌}
use native.Mathlib.Omega.{arith}
use borrow.Rule.Slice.PartMut.{mid_of, post_of, put_mid}
use borrow.Author.Tests.{lt-ltb, le-ltb}
use lib.Ieee.{Float, binary32, of_bits}
use lib.ListN.{length, take, drop, length-append, length-drop}
use lib.Seq.{take_all, drop-length, drop-drop, take_at, drop-append-add}
use Rattle.model.specs.Lists.{pick}
use Rattle.model.specs.Written.{Wrote}
use Rattle.wire.specs.Bytes.{read_as, floats_in}
use Rattle.wire.proofs.Reading.{count}
use Rattle.lent_bytes.specs.Bytes.{starting_with, putting_at, floats_of, count_of, where_room}

module _ {A : Type 0} (f : ℕ → A) (bytes : List ℕ) (at : ℕ) (room left : List A) (n : ℕ) where
  -- what is read into the room from `at` on
  pub put-read : at + length bytes / 4 ≤ length room → Wrote (read_as f bytes) (mid_of at (length room - at) room) left n
      → put_mid at (length room - at) room left ≡ putting_at at (read_as f bytes) room
  put-read h w =
      let len = length-drop at room in
      let mid : mid_of at (length room - at) room ≡ drop at room = take_all (length room - at) (drop at room) (omega (arith, len)) in
      let m : n ≡ length (read_as f bytes) = omega (arith, count f bytes, w.counted, ap length mid, len) in
      let post : post_of at (length room - at) room ≡ [] = ap (λ (k : ℕ). drop k (drop at room)) (sym len) ∙ drop-length (drop at room) in
      let entries : left ≡ read_as f bytes ++ drop (at + length (read_as f bytes)) room
      = w.slice
      ∙ (λ j. take_all n (read_as f bytes) (omega (arith, m)) j ++ drop (m j) (mid j))
      ∙ ap (λ (l : List A). read_as f bytes ++ l) (drop-drop (length (read_as f bytes)) at room) in
      (λ j. take at room ++ (entries j ++ post j))
      ∙ ap (λ (l : List A). take at room ++ l) (append-nil (read_as f bytes ++ drop (at + length (read_as f bytes)) room))
      ∙ sym (append_assoc (take at room) (read_as f bytes) (drop (at + length (read_as f bytes)) room))

-- entries put after those that stand at the start
pub put_next : {A : Type 0} (first next lent : List A) (n : ℕ) → length first ≡ n
    → putting_at n next (starting_with first lent) ≡ starting_with (first ++ next) lent
put_next first next lent n e =
    let rest : drop (n + length next) (first ++ drop (length first) lent) ≡ drop (length (first ++ next)) lent
    = ap (λ (k : ℕ). drop (k + length next) (first ++ drop (length first) lent)) (sym e)
    ∙ drop-append-add first (drop (length first) lent) (length next)
    ∙ drop-drop (length next) (length first) lent
    ∙ ap (λ (k : ℕ). drop k lent) (sym (length-append first next)) in
    λ j. take_at first (drop (length first) lent) n e j ++ next ++ rest j

-- without room for n entries the slice stays
pub kept : {A : Type 0} (n : ℕ) (entries lent : List A) → length lent < n → lent ≡ where_room n entries lent
kept n entries lent h = sym (λ j. pick (lt-ltb (length lent) n h j) lent (starting_with entries lent))

-- with room for three slices, these one after the other
pub three-put : (a b c : List ℕ) (lent one two three : List Float) → count_of a b c ≤ length lent
    → one ≡ putting_at 0 (floats_in a) lent → two ≡ putting_at (length a / 4) (floats_in b) one
    → three ≡ putting_at (length a / 4 + length b / 4) (floats_in c) two → three ≡ where_room (count_of a b c) (floats_of a b c) lent
three-put a b c lent one two three h p q r =
    let la = count (of_bits binary32) a in
    let lb = count (of_bits binary32) b in
    let first : one ≡ starting_with (floats_in a) lent = p ∙ put_next [] (floats_in a) lent 0 refl in
    let second : two ≡ starting_with (floats_in a ++ floats_in b) lent
    = q ∙ ap (putting_at (length a / 4) (floats_in b)) first ∙ put_next (floats_in a) (floats_in b) lent (length a / 4) la in
    let third : three ≡ starting_with (floats_of a b c) lent
    = r ∙ ap (putting_at (length a / 4 + length b / 4) (floats_in c)) second
    ∙ put_next (floats_in a ++ floats_in b) (floats_in c) lent (length a / 4 + length b / 4) (length-append (floats_in a) (floats_in b) ∙ (λ j. la j + lb j)) in
    third ∙ sym (λ j. pick (le-ltb (length lent) (count_of a b c) h j) lent (starting_with (floats_of a b c) lent))
