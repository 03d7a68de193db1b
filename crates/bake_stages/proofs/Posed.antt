-- The worlds of a placing that reads the pose from the slots where it was just written. Assumes nothing.
use mathlib.Core.Path.{◌≡◌, refl, sym, ap, ◌∙◌}
use mathlib.Core.List.{List, ◌++◌}
use mathlib.Core.Option.{Option, none, some}
use Prim.Native.Nat.{ℕ, ◌*◌, ◌≤◌, ◌<◌}
use native.Mathlib.Omega.{arith}
use lib.Ieee.{Float}
use lib.ListN.{get_or, drop, replicate}
use Rattle.model.specs.Lists.{tabulate}
use Rattle.model.specs.Matrix.{Matrix}
use Rattle.model.specs.Vector.{Vector}
use Rattle.model.specs.Transform.{Transform, to_matrix}
use Rattle.model.specs.Scene.{Track, node_count}
use Rattle.model.specs.Pose.{Pose, at_rest, poses, posed_over, local_transform}
use Rattle.model.specs.Placing.{order, taken}
use Rattle.model.specs.World.{poses_of, local_at, worlds_from, worlds}
use Rattle.model.proofs.Placed.{placed-in-range}
use Rattle.tables.specs.Records.{node_row, channel_row}
use Rattle.tables.specs.Decoded.{Lent, base_of, scene_of}
use Rattle.tables.specs.Codes.{codes_of}
use Rattle.tables.proofs.Decoding.{node-count, node-at}
use Rattle.placing.specs.Walk.{listing_in}
use Rattle.placing.proofs.Linked.{same-listing, order-linked, places-linked, taken-linked}
use Rattle.pose_slots.specs.Slots.{room, pose_in}
use Rattle.pose_slots.specs.Gifts.{bare}
use Rattle.pose_slots.specs.Channels.{channel_in}
use Rattle.pose.specs.Encoded.{encoded_words, encoded_floats}
use Rattle.pose.proofs.EncodeLaws.{read-pose}
use Rattle.worlds.specs.Slots.{slots_of}
use Rattle.worlds.specs.Posed.{local_in}
use Rattle.worlds.specs.Placed.{Run}
use Rattle.worlds.proofs.Delivering.{worlds-alike}
use Rattle.bake_stages.specs.Scratch.{Slices, scratch_left}

-- the weights of a pose do not matter for a local transform
bare-over : (p : Pose) (t r s : Option Vector) (b : Transform) → posed_over (bare p) t r s b ≡ posed_over p t r s b
unfolding posed_over
bare-over p none none none b = refl
bare-over p (some t) r s b = refl
bare-over p none (some r) s b = refl
bare-over p none none (some s) b = refl

module _ (l : Lent) (time : Float) (lent : Slices) where
  -- the channels as the stages read them
  abbrev tracks : List Track
  tracks = tabulate l.header.channels.count (λ k. channel_in l.floats (channel_row l.words l.header.channels k))

  same-tracks : tracks ≡ (scene_of l).tracks
  unfolding scene_of
  same-tracks = refl

  abbrev count : ℕ
  count = l.header.graph.nodes.count

  module _ (enough : count ≤ room lent.marks lent.slots) where
    abbrev local : ℕ → Matrix
    local = local_in l.words l.floats l.header.graph.nodes (encoded_words time count tracks lent.marks) (encoded_floats time count tracks lent.slots)

    local-alike : (i : ℕ) → i < node_count (scene_of l) → local i ≡ local_at (poses_of time (scene_of l)) (scene_of l) i
    unfolding local_in
    local-alike i b =
        let n = node-count l in
        let c : i < count = omega (arith, n) in
        let p : pose_in (encoded_words time count tracks lent.marks) (encoded_floats time count tracks lent.slots) i ≡ bare (get_or (poses time count tracks) i at_rest)
        = read-pose time count lent.marks lent.slots enough tracks i c in
        let q : poses time count tracks ≡ poses_of time (scene_of l) = λ j. poses time (sym n j) (same-tracks j) in
        let base : Transform = base_of l.floats (node_row l.words l.header.graph.nodes i) in
        let pose : Pose = get_or (poses time count tracks) i at_rest in
        ap (λ (x : Pose). to_matrix (local_transform x base)) p
        ∙ ap to_matrix (bare-over pose pose.translation pose.rotation pose.scale base)
        ∙ (λ j. to_matrix (local_transform (get_or (q j) i at_rest) (sym (node-at l i c) j).base))

    pub all-worlds : worlds_from local (replicate (node_count (scene_of l)) none) (order (scene_of l)) ≡ worlds (poses_of time (scene_of l)) (scene_of l)
    unfolding worlds
    all-worlds = worlds-alike local _ (order (scene_of l)) _ (λ e m. local-alike e.node (placed-in-range (scene_of l) e m).0)

    -- what the two stages leave
    pub left : (marks walk places' : List ℕ) (slots floats : List Float) (n : ℕ)
        → marks ≡ encoded_words time count tracks lent.marks → slots ≡ encoded_floats time count tracks lent.slots
        → Run (listing_in l.words l.header.graph) (local_in l.words l.floats l.header.graph.nodes marks slots)
        (record { from = lent.walk; to = walk }) (record { from = lent.places; to = places' })
        (record { from = lent.worlds; to = floats }) n
        → (n ≡ taken (scene_of l)) × (record { marks = marks; slots = slots; walk = walk; places = places'; worlds = floats } ≡ scratch_left l time lent)
    unfolding scratch_left
    left marks walk places' slots floats n p q run =
        let k = (same-listing l).count in
        let c = sym (node-count l) in (
          run.entries ∙ taken-linked l,
          λ j. record {
            marks = (p ∙ (λ i. encoded_words time (c i) (same-tracks i) lent.marks)) j;
            slots = (q ∙ (λ i. encoded_floats time (c i) (same-tracks i) lent.slots)) j;
            walk = run.walk j;
            places = (run.codes ∙ (λ i. codes_of (places-linked l i) ++ drop (k i) lent.places)) j;
            worlds =
                (run.floats
                ∙ (λ i. slots_of (worlds_from (local_in l.words l.floats l.header.graph.nodes (p i) (q i)) (replicate (k i) none) (order-linked l i)) ++ drop (k i * 16) lent.worlds)
                ∙ ap (λ (w : List (Option Matrix)). slots_of w ++ drop (node_count (scene_of l) * 16) lent.worlds) all-worlds) j;
          },
        )
