-- The tables of a document hold the items of each field and the record of each form. Assumes nothing.
use mathlib.Core.Path.{◌≡◌, refl, sym, ap, subst, ◌∙◌}
use mathlib.Core.Bool.{not, ◌||◌}
use mathlib.Core.List.{List, [], ◌∷◌, ◌++◌}
use mathlib.Core.Option.{some}
use Prim.Native.Nat.{ℕ, zero, suc, ◌+◌, ◌*◌, ◌≤◌, ◌<◌}
use native.Mathlib.Omega.{arith}
use lib.Dec.{T, eqb}
use lib.Ieee.{Float, binary32, of_bits}
use lib.ListN.{length, get_or, take, length-append, length-map}
use Rattle.model.specs.Lists.{every, part}
use Rattle.tracks.specs.declared.Part.{Part}
use Rattle.grammar.specs.Forms.{Kind, Field, Form, Document, Small, FitsSlots, FitsKind, FitsKinds}
use Rattle.grammar.specs.Shape.{is_float, sorted, form_holds, kind_holds, holds}
use Rattle.grammar.proofs.Words.{both}
use Rattle.scene_schema.specs.declared.Pool.{Pool}
use Rattle.scene_schema.specs.declared.Pool.TheVariants as pool
use Rattle.scene_schema.specs.Schema.{kinds, kind_at, no_kind}
use Rattle.scene_schema.specs.Numbers.{sort_of}
use Rattle.scene_marks.specs.Marks.{row_of, stride_of}
use Rattle.scene_forms.specs.Filled.{reals_of, pool_of}
use Rattle.scene_forms.specs.Laid.{items_of, field_at, no_counts, items_from, marks_of, rows_from}
use Rattle.scene_forms.specs.Read.{Slices}
use Rattle.scene_forms.specs.Said.{forms_of, count_of, ids_of, tables_of}
use Rattle.scene_forms.proofs.TableLaws.{row-long, row_words}
use Rattle.scene_spelling.specs.Written.{bits_of}
use Rattle.scene_round.specs.Read.{lent_of}
use Rattle.scene_round.proofs.Held.{Held, held-part, held-within, held-before, held-map}
use Rattle.scene_round.proofs.Bits.{floats-kept}
use Rattle.scene_round.proofs.Placed.{Table, form_of, counts_at, items-held, record-held}
use Rattle.scene_round.proofs.Fields.{read_at, room_of, start_at, FormIn, there-inside}

-- every table is shorter than 2^32
pub record Short (s : Slices) : Type 0 where
  pub words : length s.words ≤ 0xffff_ffff
  pub floats : length s.floats ≤ 0xffff_ffff
  pub node_weights : length s.node_weights ≤ 0xffff_ffff
  pub mesh_weights : length s.mesh_weights ≤ 0xffff_ffff

-- ---- a kind of a document that fits, and a form of it

kinds-long : (ks : List Kind) (d : Document) → FitsKinds ks d → length d ≡ length ks
kinds-long [] [] p = refl
kinds-long [] (fs ∷ d) p = absurd p
kinds-long (q ∷ ks) [] p = absurd p
kinds-long (q ∷ ks) (fs ∷ d) p = ap suc (kinds-long ks d p.1)

pub nine : (d : Document) → FitsKinds kinds d → length d ≡ 9
unfolding kinds
nine d p = kinds-long kinds d p

pub kind-at : (ks : List Kind) (d : Document) (k : ℕ) → FitsKinds ks d → T (holds ks d) → k < length d
    → FitsKind (get_or ks k no_kind) (get_or d k []) × T (kind_holds (get_or ks k no_kind) (get_or d k []))
unfolding holds
kind-at [] [] k p h l = absurd (omega arith)
kind-at [] (fs ∷ d) k p h l = absurd p
kind-at (q ∷ ks) [] k p h l = absurd p
kind-at (q ∷ ks) (fs ∷ d) zero p h l = (p.0, (both (kind_holds q fs) (holds ks d) h).0)
kind-at (q ∷ ks) (fs ∷ d) (suc k) p h l =
    kind-at ks d k p.1 (both (kind_holds q fs) (holds ks d) h).1 (omega arith)

form-at : (q : Kind) (fs : List Form) (i : ℕ) → FitsKind q fs → T (every (form_holds q) fs) → i < length fs
    → FitsSlots q.slots (get_or fs i []) × T (form_holds q (get_or fs i []))
unfolding every
form-at q [] i p h l = absurd (omega arith)
form-at q (f ∷ fs) zero p h l = (p.0, (both (form_holds q f) (every (form_holds q) fs) h).0)
form-at q (f ∷ fs) (suc i) p h l =
    form-at q fs i p.1 (both (form_holds q f) (every (form_holds q) fs) h).1 (omega arith)

-- ---- what the tables hold

floats-read : {xs l : List ℕ} {at : ℕ} (more : List Float) → Held xs l at → Small xs → T (every is_float xs)
    → bits_of (part (reals_of l ++ more) at (length xs)) ≡ xs
floats-read {xs} {l} {at} more h s o =
    ap (λ (n : ℕ). bits_of (part (reals_of l ++ more) at n)) (sym (length-map xs (of_bits binary32)))
    ∙ ap bits_of (held-part (held-before more (held-map (of_bits binary32) h)))
    ∙ floats-kept xs s o

floats-inside : {xs l : List ℕ} {at : ℕ} (more : List Float) → Held xs l at
    → at + length xs ≤ length (reals_of l ++ more)
floats-inside {xs} more h =
    omega (arith, held-within (held-before more (held-map (of_bits binary32) h)), length-map xs (of_bits binary32))

pool-short : (d : Document) → Short (tables_of d) → (p : Pool) → Table p → length (items_from p 0 d) < 0x1_0000_0000
unfolding tables_of
pool-short d s pool.Number t = absurd t
pool-short d s pool.Bits t = absurd t
pool-short d s pool.Ids t = omega (arith, s.words, length-append (ids_of d) (rows_from 0 d no_counts))
pool-short d s pool.Floats t = omega (arith, s.floats, length-map (items_from pool.Floats 0 d) (of_bits binary32))
pool-short d s pool.NodeWeights t =
    omega (arith, s.node_weights, length-map (items_from pool.NodeWeights 0 d) (of_bits binary32))
pool-short d s pool.MeshWeights t =
    omega (arith, s.mesh_weights, length-map (items_from pool.MeshWeights 0 d) (of_bits binary32))

module _ (d : Document) (behind : Slices) where
  pool-read : (p : Pool) {xs : List ℕ} {at : ℕ} → Table p → Held xs (items_from p 0 d) at → Small xs
      → T (sorted (sort_of p) xs) → read_at p (lent_of d behind) at (length xs) ≡ xs
  unfolding tables_of
  pool-read pool.Number t h s o = absurd t
  pool-read pool.Bits t h s o = absurd t
  pool-read pool.Ids t h s o = held-part (held-before behind.words (held-before (rows_from 0 d no_counts) h))
  pool-read pool.Floats t h s o = floats-read behind.floats h s o
  pool-read pool.NodeWeights t h s o = floats-read behind.node_weights h s o
  pool-read pool.MeshWeights t h s o = floats-read behind.mesh_weights h s o

  pool-inside : (p : Pool) {xs : List ℕ} {at : ℕ} → Table p → Held xs (items_from p 0 d) at
      → at + length xs ≤ room_of p (lent_of d behind)
  unfolding tables_of
  pool-inside pool.Number t h = absurd t
  pool-inside pool.Bits t h = absurd t
  pool-inside pool.Ids t h = held-within (held-before behind.words (held-before (rows_from 0 d no_counts) h))
  pool-inside pool.Floats t h = floats-inside behind.floats h
  pool-inside pool.NodeWeights t h = floats-inside behind.node_weights h
  pool-inside pool.MeshWeights t h = floats-inside behind.mesh_weights h

  -- the record of form i of kind k, in a table that starts where those of that kind do
  pub row_read : (k i : ℕ) (t : Part) → k < length d → i < count_of d k
      → t.at ≡ length (ids_of d) + row_words 0 (take k d)
      → row_of k (marks_of k (form_of d k i) (counts_at d k i))
      ≡ part (lent_of d behind).words (t.at + i * stride_of k) (stride_of k)
  unfolding tables_of
  row_read k i t h l e =
      let row = row_of k (marks_of k (form_of d k i) (counts_at d k i)) in
      let words = (lent_of d behind).words in
      sym (held-part (held-before behind.words (record-held d k i h l)))
      ∙ (λ j. part words (sym e j + i * stride_of k) (row-long k (marks_of k (form_of d k i) (counts_at d k i)) j))

-- ---- a document that fits

module _ (d : Document) (behind : Slices) (fits : FitsKinds kinds d) (shaped : T (holds kinds d))
    (short : Short (tables_of d)) where
  pub form_in : (k i : ℕ) → k < 9 → i < count_of d k → FormIn (lent_of d behind) k (form_of d k i) (counts_at d k i)
  form_in k i h l =
      let f = form_of d k i in
      let c = counts_at d k i in
      let within : k < length d = omega (arith, nine d fits) in
      let kind = kind-at kinds d k fits shaped within in
      let fs = forms_of d k in
      let form = form-at (kind_at k) fs i kind.0
      (both (every (form_holds (kind_at k)) fs) (not (kind_at k).single || eqb (length fs) 1) kind.1).0 l in
      let held : (j : ℕ) (xs : List ℕ) → Table (pool_of k j) → field_at f j ≡ some xs
      → Held xs (items_from (pool_of k j) 0 d) (start_at k f c j) =
      λ j xs t e.
      subst (λ (x : Field). Held (items_of x) (items_from (pool_of k j) 0 d) (start_at k f c j)) e
      (items-held d k i within l (pool_of k j) t j refl (there-inside f j xs e)) in
      record {
        known = h;
        fits = form.0;
        shaped = form.1;
        short = λ j xs t e. omega (arith, held-within (held j xs t e), pool-short d short (pool_of k j) t);
        inside = λ j xs t e. pool-inside d behind (pool_of k j) t (held j xs t e);
        items = λ j xs t e s o. pool-read d behind (pool_of k j) t (held j xs t e) s o;
      }
