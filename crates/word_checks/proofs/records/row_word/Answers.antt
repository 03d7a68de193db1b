use mathlib.Core.Path.{◌≡◌, ◌∙◌, sym, ap}
use mathlib.Core.List.{List}
use Prim.Native.Nat.{ℕ}
use Rattle.tracks.specs.declared.Part.{Part}
use Rattle.tables.specs.declared.NodeRow.{NodeRow}
use Rattle.row_checks.specs.declared.Sizes.{Sizes}
use Rattle.checks.specs.declared.Table.{Table}
use Rattle.refusals.specs.Drawn.{number_of}
use Rattle.word_checks.specs.Words.{Asked, nothing, first_asked, node_asked, channel_asked, mesh_asked, primitive_asked}
use Rattle.word_checks.specs.Words.{target_asked, in_between_asked, skin_asked, skeleton_asked, row_asked}
use Rattle.word_checks.proofs.records.row_word.Goals as goal

-- by the record that was read, and the table that it was read from
told : (words : List ℕ) (s : Sizes) (t : Part) (k j : Table) (n i entries : ℕ) (r : Asked) (asked : List Asked)
    → r ≡ first_asked n asked nothing → asked ≡ row_asked words s t j i entries → k ≡ j
    → r ≡ first_asked n (row_asked words s t k i entries) nothing
told words s t k j n i entries r asked e f g =
    e
    ∙ ap (λ (l : List Asked). first_asked n l nothing) f
    ∙ ap (λ (k : Table). first_asked n (row_asked words s t k i entries) nothing) (sym g)

pub returns-in-Nodes : goal.returns-in-Nodes
returns-in-Nodes c =
    let a = c.args in
    told a.words.now a.s a.t a.k _ (number_of a.n) a.i a.entries _ _ c.node_word.ensures
    (ap (λ (r : NodeRow). node_asked a.s r a.entries) c.node_row.ensures)
    c.in-Nodes.is

pub returns-in-Channels : goal.returns-in-Channels
returns-in-Channels c =
    let a = c.args in
    told a.words.now a.s a.t a.k _ (number_of a.n) a.i a.entries _ _ c.channel_word.ensures
    (ap (channel_asked a.s) c.channel_row.ensures) c.in-Channels.is

pub returns-in-Meshes : goal.returns-in-Meshes
returns-in-Meshes c =
    let a = c.args in
    told a.words.now a.s a.t a.k _ (number_of a.n) a.i a.entries _ _ c.mesh_word.ensures
    (ap (mesh_asked a.s) c.mesh_row.ensures) c.in-Meshes.is

pub returns-in-Primitives : goal.returns-in-Primitives
returns-in-Primitives c =
    let a = c.args in
    told a.words.now a.s a.t a.k _ (number_of a.n) a.i a.entries _ _ c.primitive_word.ensures
    (ap (primitive_asked a.s) c.primitive_row.ensures) c.in-Primitives.is

pub returns-in-Targets : goal.returns-in-Targets
returns-in-Targets c =
    let a = c.args in
    told a.words.now a.s a.t a.k _ (number_of a.n) a.i a.entries _ _ c.target_word.ensures
    (ap (target_asked a.s) c.target_row.ensures) c.in-Targets.is

pub returns-in-InBetweens : goal.returns-in-InBetweens
returns-in-InBetweens c =
    let a = c.args in
    told a.words.now a.s a.t a.k _ (number_of a.n) a.i a.entries _ _ c.in_between_word.ensures
    (ap (in_between_asked a.s) c.in_between_row.ensures) c.in-InBetweens.is

pub returns-in-Skins : goal.returns-in-Skins
returns-in-Skins c =
    let a = c.args in
    told a.words.now a.s a.t a.k _ (number_of a.n) a.i a.entries _ _ c.skin_word.ensures
    (ap skin_asked c.skin_row.ensures) c.in-Skins.is

pub returns-in-Skeletons : goal.returns-in-Skeletons
returns-in-Skeletons c =
    let a = c.args in
    told a.words.now a.s a.t a.k _ (number_of a.n) a.i a.entries _ _ c.skeleton_word.ensures
    (ap (skeleton_asked a.s) c.skeleton_row.ensures) c.in-Skeletons.is
