-- A record in bytes: where its bytes lie, and that it draws by itself what it draws in its table. Assumes nothing.
use mathlib.Core.Path.{◌≡◌, sym, ap, ◌∙◌, subst}
use mathlib.Core.Bool.{true}
use mathlib.Core.List.{List}
use Prim.Native.Nat.{ℕ, ◌+◌, ◌*◌, ◌/◌, ◌≤◌}
use native.Mathlib.Nat.{mul-le-mul, le_refl, add-mul}
use native.Mathlib.Omega.{arith}
use borrow.Author.Tests.{leb-true}
use lib.Dec.{lit≤}
use lib.Ieee.{Float}
use lib.ListN.{length, take, drop, replicate, length-take, length-replicate}
use Rattle.model.specs.Lists.{part}
use Rattle.model.specs.Written.{Wrote}
use Rattle.wire.specs.Bytes.{words_in}
use Rattle.wire.proofs.Reading.{count, read_all}
use Rattle.wire.proofs.Parts.{part-read}
use Rattle.tracks.specs.declared.Part.{Part}
use Rattle.tracks.specs.Tracks.{table_number}
use Rattle.tables.specs.declared.NodeRow.{NodeRow}
use Rattle.tables.specs.declared.ChannelRow.{ChannelRow}
use Rattle.tables.specs.declared.MeshRow.{MeshRow}
use Rattle.tables.specs.declared.PrimitiveRow.{PrimitiveRow}
use Rattle.tables.specs.declared.TargetRow.{TargetRow}
use Rattle.tables.specs.declared.InBetweenRow.{InBetweenRow}
use Rattle.tables.specs.declared.SkinRow.{SkinRow}
use Rattle.tables.specs.declared.SkeletonRow.{SkeletonRow}
use Rattle.tables.specs.Records.{alone, node_words, channel_words, node_row, channel_row}
use Rattle.tables.specs.Tags.{track_for}
use Rattle.tables.specs.Alone.{same-node, same-channel, same-mesh, same-primitive, same_target, same-in-between, same-skin, same-skeleton}
use Rattle.row_checks.specs.declared.Sizes.{Sizes}
use Rattle.row_checks.specs.Places.{node_fits, mesh_fits, primitive_fits, target_fits, in_between_fits, skeleton_fits}
use Rattle.row_checks.specs.Bounds.{node_within, tags_known, mesh_within, primitive_within, target_within, in_between_within, skin_within, skeleton_within}
use Rattle.checks.specs.declared.Table.{Table}
use Rattle.checks.specs.declared.Table.TheVariants as table
use Rattle.checks.specs.Drawn.{drawn, lower_of, node_number, channel_number, mesh_number, primitive_number, target_number, in_between_number, skin_number, skeleton_number, row_number, record_words}
use Rattle.byte_checks.specs.Bytes.{RecordThere}

-- ---- where it lies
few_words : (k : Table) → record_words k ≤ 16
few_words table.Nodes = lit≤ tt
few_words table.Channels = lit≤ tt
few_words table.Meshes = lit≤ tt
few_words table.Primitives = lit≤ tt
few_words table.Targets = lit≤ tt
few_words table.InBetweens = lit≤ tt
few_words table.Skins = lit≤ tt
few_words table.Skeletons = lit≤ tt

module _ (bytes : List ℕ) (t : Part) (k : Table) (i : ℕ) where
  module _ (there : RecordThere bytes t k i) (stride : ℕ) (e : stride ≡ record_words k) where
    pub inside : (t.at + i * stride) * 4 + stride * 4 ≤ length bytes
    inside =
        let fits : t.at + t.count * stride ≤ length bytes / 4
        = subst (λ (w : ℕ). t.at + t.count * w ≤ length bytes / 4) (sym e) (leb-true _ _ there.0) in
        let next : i + 1 ≤ t.count = omega (arith, there.1) in
        let more : (i + 1) * stride ≤ t.count * stride = mul-le-mul next (le_refl stride) in
        omega (arith, fits, more, add-mul i 1 stride)

    pub words_of : words_in (part bytes ((t.at + i * stride) * 4) (stride * 4))
        ≡ part (words_in bytes) (t.at + i * record_words k) (record_words k)
    words_of =
        part-read (λ w. w) bytes (t.at + i * stride) stride inside
        ∙ ap (λ (w : ℕ). part (words_in bytes) (t.at + i * w) w) e

  -- its words in a local array
  pub decoded : (own row : List ℕ) (n : ℕ)
      → words_in own ≡ part (words_in bytes) (t.at + i * record_words k) (record_words k)
      → Wrote (words_in own) (replicate 16 0) row n
      → take n row ≡ part (words_in bytes) (t.at + i * record_words k) (record_words k)
  decoded own row n e w =
      let cut = length-take (record_words k) (drop (t.at + i * record_words k) (words_in bytes)) in
      let room = length-replicate {A = ℕ} 16 0 in
      read_all (λ w. w) own (replicate 16 0) n row w
      (omega (arith, ap length e, cut, few_words k, count (λ w. w) own, room)) ∙ e

-- ---- what it says and draws
module _ (words : List ℕ) (t : Part) (i : ℕ) (row : List ℕ) (own : Part) (o : own ≡ alone) where
  pub node-alone : row ≡ part words (t.at + i * node_words) node_words → node_row row own 0 ≡ node_row words t i
  node-alone e = ap (λ (p : Part). node_row row p 0) o ∙ same-node words t i row e

  pub channel-alone : row ≡ part words (t.at + i * channel_words) channel_words
      → channel_row row own 0 ≡ channel_row words t i
  channel-alone e = ap (λ (p : Part). channel_row row p 0) o ∙ same-channel words t i row e

  module _ (floats : List Float) (s : Sizes) where
    alone-draws : (k : Table) → row ≡ part words (t.at + i * record_words k) (record_words k)
        → row_number row floats s alone k 0 ≡ row_number words floats s t k i
    unfolding node_number channel_number mesh_number primitive_number target_number in_between_number skin_number skeleton_number
    alone-draws table.Nodes e = ap (λ (r : NodeRow). drawn (node_fits s r) (node_within r)) (same-node words t i row e)
    alone-draws table.Channels e =
        ap (λ (r : ChannelRow). lower_of (table_number floats (track_for r)) (drawn true (tags_known r)))
        (same-channel words t i row e)
    alone-draws table.Meshes e = ap (λ (r : MeshRow). drawn (mesh_fits s r) (mesh_within r)) (same-mesh words t i row e)
    alone-draws table.Primitives e =
        ap (λ (r : PrimitiveRow). drawn (primitive_fits s r) (primitive_within r)) (same-primitive words t i row e)
    alone-draws table.Targets e =
        ap (λ (r : TargetRow). drawn (target_fits s r) (target_within r)) (same_target words t i row e)
    alone-draws table.InBetweens e =
        ap (λ (r : InBetweenRow). drawn (in_between_fits s r) (in_between_within r)) (same-in-between words t i row e)
    alone-draws table.Skins e = ap (λ (r : SkinRow). drawn true (skin_within r)) (same-skin words t i row e)
    alone-draws table.Skeletons e =
        ap (λ (r : SkeletonRow). drawn (skeleton_fits s r) (skeleton_within r)) (same-skeleton words t i row e)

    pub row-alone : (k : Table) → row ≡ part words (t.at + i * record_words k) (record_words k)
        → row_number row floats s own k 0 ≡ row_number words floats s t k i
    row-alone k e = ap (λ (p : Part). row_number row floats s p k 0) o ∙ alone-draws k e
