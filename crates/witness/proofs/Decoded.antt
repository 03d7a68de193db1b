-- The lent tables say the two scenes, and draw nothing. Assumes nothing.
use mathlib.Core.Path.{◌≡◌, refl}
use Rattle.model.specs.Lists.{tabulate, rows_in}
use Rattle.scene.specs.Slots.{matrix_in}
use Rattle.tables.specs.Records.{word_of}
use Rattle.tables.specs.Decoded.{ten_in, scene_of}
use Rattle.witness.specs.Scenes.{before, after}
use Rattle.witness.specs.Tables.{lent₁, lent₂}

pub decoded₁ : scene_of lent₁ ≡ before
unfolding tabulate rows_in matrix_in word_of ten_in scene_of
decoded₁ = refl

pub decoded₂ : scene_of lent₂ ≡ after
unfolding tabulate rows_in matrix_in word_of ten_in scene_of
decoded₂ = refl
