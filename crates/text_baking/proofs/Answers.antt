-- What is printed, from what was drawn before the bake or from the bake; it is never too long. Assumes nothing.
use mathlib.Core.Path.{◌≡◌, refl, sym, ap, ◌∙◌}
use mathlib.Core.Bool.{Bool, true, false, ◌&&◌}
use mathlib.Core.List.{List, [], ◌∷◌, map}
use mathlib.Core.Option.{Option, none, some}
use Prim.Native.Nat.{ℕ, zero, suc, ◌≤◌}
use native.Mathlib.Omega.{arith}
use borrow.Author.Tests.{eqb-true, ne_eqb, ltb-false, leb-true}
use lib.Dec.{eqb, ltb, leb}
use lib.Ieee.{Float}
use lib.ListN.{length, length-replicate}
use lib.Seq.{sets, length-sets}
use Rattle.borrowed.specs.Slices.{Words}
use Rattle.float.specs.F32.{zero32}
use Rattle.model.specs.Lists.{pick}
use Rattle.model.specs.Matrix.{Matrix}
use Rattle.model.specs.Scene.{Scene, Mesh}
use Rattle.model.specs.Skin.{blend_weights}
use Rattle.model.specs.Refusals.{first_of, lowest, early_number as early_tests}
use Rattle.model.specs.Bake.{Request, Output, refused, fits, delivered, judged, baked_from, baked_after, bake}
use Rattle.model.specs.Bake.{output_of, baked_primitive}
use Rattle.model.proofs.Tests.{both}
use Rattle.tables.specs.Decoded.{scene_of}
use Rattle.checks.specs.Drawn.{tables_number}
use Rattle.bake.specs.Baked as baked
use Rattle.grammar.specs.Forms.{Document}
use Rattle.spelling.specs.Pushed.{Out, out_at, farthest, pushes}
use Rattle.spelling.proofs.Pushing.{put-sets}
use Rattle.printing.specs.Lines.{vertices_text, number_text}
use Rattle.printing.proofs.LineLaws.{number-few, vertices-few}
use Rattle.scene_forms.specs.Said.{node_of, time_of}
use Rattle.scene_text.specs.declared.Needed.{Needed}
use Rattle.scene_text.specs.declared.Lengths.{Lengths}
use Rattle.scene_text.specs.Reading.{read, room_tests, needed_as, needed_by, room_of}
use Rattle.text_baking.specs.Printed.{text_limit, float_room, lent_by, room, baked_by, early_number, text_number}
use Rattle.text_baking.specs.Printed.{outcome_text, printed, Prints, baked_text, Readable, needed_for}

-- ---- bytes put at the start of an output

put_is : (bs lent : List ℕ) {left : List ℕ} {next : ℕ} → length lent ≤ farthest → length bs ≤ farthest
    → out_at left next ≡ pushes bs (out_at lent 0) → (left ≡ sets lent 0 bs) × (next ≡ length bs)
unfolding pushes
put_is [] lent l f e = (ap (λ (o : Out). o.bytes) e, ap (λ (o : Out). o.at) e)
put_is (b ∷ bs) lent l f e =
    let p = e ∙ sym (put-sets lent 0 (b ∷ bs) (suc (length bs)) l refl (omega arith) refl refl) in
    (ap (λ (o : Out). o.bytes) p, omega (arith, ap (λ (o : Out). o.at) p))

-- ---- positions

-- no more floats than there is room for
few-delivered : (r : Request) (n : ℕ) (o : Output) → length (delivered r n o).output.positions ≤ r.position_room
unfolding delivered
few-delivered r n o = go (fits r o) refl
  where
    go : (b : Bool) → fits r o ≡ b
        → length (pick b (record {
          answer = record {
            refusal = 0;
            positions = length o.positions;
            normals = length o.normals;
            tangents = length o.tangents;
            taken = n;
          };
          output = o;
        }) (refused 10)).output.positions ≤ r.position_room
    go true e =
        let b = leb (length o.positions) r.position_room in
        let c = leb (length o.normals) r.normal_room in
        leb-true _ _ (both b c (both (b && c) (leb (length o.tangents) r.tangent_room) e).0).0
    go false e = omega arith

few-judged : (r : Request) (n : ℕ) (posed own : Option (List Float)) (m : Option Mesh) (w : Option Matrix)
    (p : Option (Option (List Matrix))) → length (judged r n posed own m w p).output.positions ≤ r.position_room
unfolding judged
few-judged r n posed own none w p = omega arith
few-judged r n posed own (some m) none p = omega arith
few-judged r n posed own (some m) (some w) none = omega arith
few-judged r n posed own (some m) (some w) (some p) =
    few-delivered r n (output_of (map (baked_primitive w p (blend_weights posed own m)) m.primitives))

few-after : (g : ℕ) (s : Scene) (r : Request) → length (baked_after g s r).output.positions ≤ r.position_room
unfolding baked_after baked_from
few-after zero s r = few-judged r _ _ _ _ _ _
few-after (suc g) s r = omega arith

few-baked : (g : ℕ) (s : Scene) (r : Request) → length (bake g s r).output.positions ≤ r.position_room
unfolding bake
few-baked g s r = few-after (early_tests g s r.time r.scratch) s r

-- ---- what is printed has room

few-printed : (text : List ℕ) → length (printed text) ≤ text_limit
unfolding printed room
few-printed text = go (read text) (eqb (text_number text) 0)
  where
    go : (d : Document) (b : Bool)
        → length (pick b (vertices_text (baked_by d).output.positions) (number_text (text_number text))) ≤ text_limit
    go d true =
        omega (
          arith,
          vertices-few (baked_by d).output.positions,
          few-baked (tables_number (lent_by d)) (scene_of (lent_by d)) (baked.request_of (node_of d) (time_of d) room),
          length-replicate {A = Float} float_room zero32,
        )
    go d false = omega (arith, number-few (text_number text))

pub prints : (text : List ℕ) (out : Words) {next : ℕ} → length out.entry.now ≡ text_limit
    → out_at out.exit.now next ≡ pushes (printed text) (out_at out.entry.now 0) → Prints (printed text) out next
prints text out l e =
    let f = few-printed text in
    let p = put_is (printed text) out.entry.now (omega (arith, l)) (omega (arith, f)) e in
    record {
      output = p.0;
      count = p.1;
      fits = omega (arith, p.1, f, l, ap length p.0, length-sets out.entry.now 0 (printed text));
    }

-- ---- what a text draws before it is baked

abbrev no_lengths : Lengths
no_lengths = record { words = 0; floats = 0; node_weights = 0; mesh_weights = 0 }

number_of : (f : ℕ) (x y : Lengths) → (pick (eqb f 0) (needed_as 0 x) (needed_as f y)).number ≡ f
number_of f x y = go (eqb f 0) refl
  where
    go : (b : Bool) → eqb f 0 ≡ b → (pick b (needed_as 0 x) (needed_as f y)).number ≡ f
    go true e = sym (eqb-true f 0 e)
    go false e = refl

module _ (text : List ℕ) where
  early : (needed_for text).number ≡ early_number text
  early = go (ltb text_limit (length text))
    where
      go : (b : Bool)
          → (pick b (needed_as 2 no_lengths) (room_of text)).number ≡ pick b 2 (first_of (room_tests text))
      go true = refl
      go false = number_of (first_of (room_tests text)) (needed_by (read text)) no_lengths

  refused-early : (n : ℕ) → early_number text ≡ n → (n ≡ 0 → ⊥) → number_text n ≡ printed text
  unfolding printed text_number
  refused-early zero e h = absurd (h refl)
  refused-early (suc n) e h =
      (λ j. pick (sym (ne_eqb (suc n) 0 h) j) (vertices_text (baked_by (read text)).output.positions)
      (number_text (suc n)))
      ∙ (λ j. outcome_text (lowest (sym e j) (baked_by (read text)).answer.refusal) (baked_by (read text)))

  pub refused-put : {needed : Needed} (out : Out) {left : Out} → needed ≡ needed_for text → (needed.number ≡ 0 → ⊥)
      → left ≡ pushes (number_text needed.number) out → left ≡ pushes (printed text) out
  refused-put {needed} out e h p =
      p ∙ ap (λ (bs : List ℕ). pushes bs out)
      (refused-early needed.number (sym (ap (λ (x : Needed). x.number) e ∙ early)) h)

  baked-is : early_number text ≡ 0 → baked_text (read text) ≡ printed text
  unfolding printed text_number baked_text
  baked-is e =
      (λ j. outcome_text (lowest (sym e j) (baked_by (read text)).answer.refusal) (baked_by (read text)))

  -- a text that is baked
  pub readable : {needed : Needed} → needed ≡ needed_for text → needed.number ≡ 0
      → Readable text × (needed ≡ room_of text)
  readable {needed} e z =
      go (ltb text_limit (length text)) refl (sym early ∙ sym (ap (λ (x : Needed). x.number) e) ∙ z) e
    where
      go : (b : Bool) → ltb text_limit (length text) ≡ b → pick b 2 (first_of (room_tests text)) ≡ 0
          → needed ≡ pick b (needed_as 2 no_lengths) (room_of text)
          → Readable text × (needed ≡ room_of text)
      go true l z e = absurd (omega (arith, z))
      go false l z e = (record { short = ltb-false text_limit (length text) l; reads = z }, e)

  pub baked-put : {needed : Needed} (out : Out) {left : Out} → needed ≡ needed_for text → needed.number ≡ 0
      → left ≡ pushes (baked_text (read text)) out → left ≡ pushes (printed text) out
  baked-put out e z p =
      p ∙ ap (λ (bs : List ℕ). pushes bs out)
      (baked-is (sym early ∙ sym (ap (λ (x : Needed). x.number) e) ∙ z))
