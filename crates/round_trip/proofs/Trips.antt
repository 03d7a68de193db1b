-- A scene that is written and read back is the same. Assumes nothing.
use mathlib.Core.Path.{◌≡◌, refl, sym, ap, subst, ◌∙◌}
use mathlib.Core.Bool.{Bool, true, false, ◌||◌, not, true≢false}
use mathlib.Core.List.{List, [], ◌∷◌, ◌++◌}
use mathlib.Core.Option.{some}
use Prim.Native.Nat.{ℕ, zero, suc, ◌+◌, ◌≤◌, ◌<◌}
use native.Mathlib.Omega.{arith}
use borrow.Author.Tests.{eq-eqb, ltb-false}
use lib.Dec.{T, eqb, ltb}
use lib.Ieee.{Float, binary32, fits}
use lib.ListN.{length, take, drop}
use lib.Seq.{sets}
use Rattle.borrowed.specs.Slices.{Words, Change}
use Rattle.model.specs.Lists.{pick, or_else, is_some}
use Rattle.model.specs.Refusals.{number, bad_form, out_of_table, short_output, first_of}
use Rattle.model.proofs.Numbers.{neither-drawn}
use Rattle.tables.specs.Decoded.{Lent}
use Rattle.checks.specs.Checked.{Checked}
use Rattle.checks.specs.Drawn.{lent_as, tables_number}
use Rattle.checks.proofs.Clearing.{checked as cleared}
use Rattle.grammar.specs.Forms.{Document}
use Rattle.grammar.specs.Parsed.{reading_of}
use Rattle.scene_schema.specs.Schema.{kinds}
use Rattle.scene_forms.specs.Read.{Slices}
use Rattle.scene_forms.specs.Said.{tables_of, header_of, node_of, time_of, leaves}
use Rattle.scene_forms.proofs.StoreLaws.{stored, front}
use Rattle.scene_spelling.specs.Written.{document_of}
use Rattle.scene_round.specs.Read.{lent_of}
use Rattle.scene_round.proofs.Filling.{Lent32}
use Rattle.scene_round.proofs.Fits.{document-fits, document-holds, document-listed, document-spelled, node-asked}
use Rattle.scene_round.proofs.Fits.{time-asked}
use Rattle.scene_round.proofs.Drawn.{sound-kept}
use Rattle.scene_round.proofs.Kept.{document-kept}
use Rattle.scene_round.proofs.Tables.{Short}
use Rattle.scene_text.specs.declared.Reading.{Reading}
use Rattle.scene_text.specs.declared.Lengths.{Lengths}
use Rattle.scene_text.specs.Scanned.{room_in, is_short}
use Rattle.scene_text.specs.Reading.{read, lengths_of, needed_by, read_number, SceneRead, laid_in}
use Rattle.scene_text.specs.Reading.{accepted_as, refused_by}
use Rattle.scene_writing.specs.declared.Written.{Written}
use Rattle.scene_writing.specs.Writing.{scene_text, write_number, SceneWritten}
use Rattle.round_trip.specs.Round.{Trip, read_back, Same}

-- ---- room

-- what is not short has room
record Room (lent needed : Lengths) : Type 0 where
  words : needed.words ≤ room_in lent.words
  floats : needed.floats ≤ room_in lent.floats
  node_weights : needed.node_weights ≤ room_in lent.node_weights
  mesh_weights : needed.mesh_weights ≤ room_in lent.mesh_weights

or-false : (a b : Bool) → (a || b) ≡ false → (a ≡ false) × (b ≡ false)
or-false true b h = absurd (true≢false h)
or-false false b h = (refl, h)

has_room : (lent needed : Lengths) → is_short lent needed ≡ false → Room lent needed
has_room lent needed h =
    let a = or-false (ltb (room_in lent.words) needed.words) _ h in
    let b = or-false (ltb (room_in lent.floats) needed.floats) _ a.1 in
    let c = or-false (ltb (room_in lent.node_weights) needed.node_weights) _ b.1 in
    record {
      words = ltb-false _ _ a.0;
      floats = ltb-false _ _ b.0;
      node_weights = ltb-false _ _ c.0;
      mesh_weights = ltb-false _ _ c.1;
    }

-- ---- what the writer wrote

not_short : (b : Bool) → first_of (record { applies = b; refusal = short_output } ∷ []) ≡ 0 → b ≡ false
unfolding first_of
not_short true h = absurd (omega (arith, h))
not_short false h = refl

module _ (l : Lent) (node : ℕ) (time : Float) {out : Words} {w : Written}
    (wrote : SceneWritten l (scene_text l node time) out w) (accepted : w.number ≡ 0) where
  abbrev text : List ℕ
  text = scene_text l node time

  number_is : write_number l text (length out.entry.now) ≡ 0
  number_is = sym (ap (λ (x : Written). x.number) wrote.answer) ∙ accepted

  pub sound : tables_number l ≡ 0
  sound = (neither-drawn (tables_number l) _ number_is).0

  long : length text ≤ length out.entry.now
  long = ltb-false _ _ (not_short _ (neither-drawn (tables_number l) _ number_is).1)

  length-is : w.length ≡ length text
  length-is =
      ap (λ (x : Written). x.length) wrote.answer
      ∙ ap (λ (b : Bool). pick b (length text) 0) (eq-eqb _ 0 number_is)

  pub written : take w.length out.exit.now ≡ text
  written =
      (λ i. take (length-is i) ((wrote.output
      ∙ ap (λ (b : Bool). pick b (sets out.entry.now 0 text) out.entry.now) (eq-eqb _ 0 number_is)) i))
      ∙ front out.entry.now text (length text) refl long

-- ---- what the reader reads

module _ (l : Lent) (node : ℕ) (time : Float) {c : Change Slices} {r : Reading} (d : Document)
    (found : reading_of kinds (scene_text l node time) ≡ some d) (listed : leaves d ≡ false)
    (room : is_short (lengths_of c.from) (needed_by d) ≡ false) (took : SceneRead (scene_text l node time) c r) where
  read_is : read (scene_text l node time) ≡ d
  read_is = ap (λ o. or_else o []) found

  zero_is : read_number (scene_text l node time) (lengths_of c.from) ≡ 0
  unfolding first_of
  zero_is =
      (λ i. first_of (record { applies = not (is_some (found i)); refusal = bad_form }
      ∷ record { applies = leaves (read_is i); refusal = out_of_table }
      ∷ record { applies = is_short (lengths_of c.from) (needed_by (read_is i)); refusal = short_output }
      ∷ []))
      ∙ (λ i. pick (listed i) (number out_of_table) (pick (room i) (number short_output) 0))

  pub answered : r ≡ accepted_as d
  answered =
      took.answer
      ∙ (λ i. pick (eq-eqb _ 0 zero_is i) (accepted_as (read_is i)) (refused_by (zero_is i)))

  pub filled : c.to ≡ laid_in d c.from
  filled =
      took.slices ∙ (λ i. pick (eq-eqb _ 0 zero_is i) (laid_in (read_is i) c.from) c.from)

-- the tables with what stands behind them
abbrev behind : Document → Slices → Slices
behind d s = record {
  words = drop (length (tables_of d).words) s.words;
  floats = drop (length (tables_of d).floats) s.floats;
  node_weights = drop (length (tables_of d).node_weights) s.node_weights;
  mesh_weights = drop (length (tables_of d).mesh_weights) s.mesh_weights;
}

module _ (d : Document) (s : Slices) (h : Room (lengths_of s) (needed_by d)) where
  laid : let t = laid_in d s in
      lent_as t.words t.floats t.node_weights t.mesh_weights (header_of d) ≡ lent_of d (behind d s)
  laid = λ i. lent_as (stored s.words (tables_of d).words (omega (arith, h.words)) i)
      (stored s.floats (tables_of d).floats (omega (arith, h.floats)) i)
      (stored s.node_weights (tables_of d).node_weights (omega (arith, h.node_weights)) i)
      (stored s.mesh_weights (tables_of d).mesh_weights (omega (arith, h.mesh_weights)) i) (header_of d)

  short : Short (tables_of d)
  short = record {
    words = omega (arith, h.words);
    floats = omega (arith, h.floats);
    node_weights = omega (arith, h.node_weights);
    mesh_weights = omega (arith, h.mesh_weights);
  }

-- a scene in slices of u32 and f32, a node of 32 bits and an f32 time
pub round_trip : (l : Lent) (node : ℕ) (time : Float) {out : Words} {w : Written} {c : Change Slices} {r : Reading}
    → Lent32 l → node < 0x1_0000_0000 → T (fits binary32 time) → Trip l node time out w c r → Same l node time c r
round_trip l node time {out} {w} {c} {r} has low held t =
    let d = document_of l node time in
    let checked = cleared l (sound l node time t.wrote t.accepted) in
    let found = document-spelled l checked has node time low held in
    let listed = document-listed l checked node time in
    let took : SceneRead (scene_text l node time) c r
    = subst (λ (s : List ℕ). SceneRead s c r) (written l node time t.wrote t.accepted) t.read in
    let a = answered l node time d found listed t.room took in
    let room = has_room (lengths_of c.from) (needed_by d) t.room in
    let n : r.node ≡ node = ap (λ (x : Reading). x.node) a ∙ node-asked l node time in
    let m : r.time ≡ time = ap (λ (x : Reading). x.time) a ∙ time-asked l node time held in
    let back : read_back c r ≡ lent_of d (behind d c.from)
    = (λ i. read_back (record { from = c.from; to = filled l node time d found listed t.room took i }) (a i))
    ∙ laid d c.from room in
    record {
      number = ap (λ (x : Reading). x.number) a;
      node_kept = n;
      time-kept = m;
      records =
          (λ i. document_of (back i) (a i).node (a i).time)
          ∙ document-kept d (behind d c.from) (document-fits l checked has node time low held)
          (document-holds l checked has node time low held) (short d c.from room);
      tables =
          ap tables_number back
          ∙ sound-kept l checked has node time low held (behind d c.from) (short d c.from room);
    }
