-- Tracks whose kind or interpolation names nothing. Assumes nothing.
use mathlib.Core.Path.{◌≡◌, refl, sym, ap, ◌∙◌}
use mathlib.Core.Bool.{Bool, true, false, true≢false, false≢true, not, ◌&&◌}
use mathlib.Core.List.{List}
use Prim.Native.Nat.{ℕ}
use lib.Ieee.{Float}
use lib.ListN.{length}
use Rattle.model.specs.Lists.{pick}
use Rattle.model.specs.Scene as scene
use Rattle.model.specs.Refusals.{first_of, lowest, track_over_limit}
use Rattle.tracks.specs.Tracks.{keys_fit, values_fit, track_in, table_number}
use Rattle.tracks.specs.declared.Track.{Track}
use Rattle.tables.specs.declared.ChannelRow.{ChannelRow}
use Rattle.tables.specs.Tags.{track_for}
use Rattle.row_checks.specs.Bounds.{tags_known}
use Rattle.track_entries.specs.Tracks.{track_number, number_for}

-- ---- whether a track that lies in a table of n floats is such a one
module _ (n : ℕ) (r : ChannelRow) where
  abbrev lies : Track → Bool
  lies t = keys_fit n t && values_fit n t

  pub is-named : tags_known r ≡ true → false ≡ (not (tags_known r) && lies (track_for r))
  is-named p = ap (λ (b : Bool). not b && lies (track_for r)) (sym p)

  pub not_named : tags_known r ≡ false → (t : Track) → t ≡ track_for r → (b : Bool) → b ≡ lies t
      → b ≡ (not (tags_known r) && lies (track_for r))
  not_named p t e b q = q ∙ ap lies e ∙ ap (λ (k : Bool). not k && lies (track_for r)) (sym p)

-- ---- what it draws

-- the table draws 1 where the track leaves it, and otherwise 2 or 0
pub record Draws (inside : Bool) (g : ℕ) : Type 0 where
  pub over : Bool
  pub number : g ≡ pick inside (pick over 2 0) 1

known : (b inside over : Bool) → (not b && inside) ≡ false
    → lowest (pick inside (pick over 2 0) 1) (pick (not b) 2 0) ≡ pick inside (pick over 2 0) 1
known true true true e = refl
known true true false e = refl
known true false over e = refl
known false true over e = absurd (true≢false e)
known false false over e = refl

unknown : (b inside over : Bool) → (not b && inside) ≡ true
    → lowest (pick inside (pick over 2 0) 1) (pick (not b) 2 0) ≡ 2
unknown true inside over e = absurd (false≢true e)
unknown false true true e = refl
unknown false true false e = refl
unknown false false over e = absurd (false≢true e)

pub table-draws : (floats : List Float) (t : Track)
    → Draws (keys_fit (length floats) t && values_fit (length floats) t) (table_number floats t)
unfolding table_number
table-draws floats t = record { over = track_over_limit (track_in floats t); number = refl }

-- ---- a call on a track that was handed in as u, is `row`, and is read as t
module _ {X : Type 0} (call : ℕ → scene.Track → X) (floats : List Float) (row u : ChannelRow) (e : row ≡ u)
    (inside : Bool) (d : Draws inside (table_number floats (track_for row))) where
  abbrev asked : ChannelRow → X
  asked r = call (number_for floats r) (track_in floats (track_for r))

  -- with the number that `row` draws
  drawn : (g : ℕ) → track_number (pick inside (pick d.over 2 0) 1) row ≡ g
      → call g (track_in floats (track_for row)) ≡ asked u
  drawn g p =
      ap (λ (n : ℕ). call n (track_in floats (track_for row)))
      (sym p ∙ ap (λ (n : ℕ). track_number n row) (sym d.number))
      ∙ ap asked e

  pub by_name : (not (tags_known row) && inside) ≡ false → (t : Track) → t ≡ track_for row
      → (x : X) → x ≡ call (table_number floats t) (track_in floats t) → x ≡ asked u
  unfolding track_number first_of
  by_name h t f x p =
      p
      ∙ (λ j. call (table_number floats (f j)) (track_in floats (f j)))
      ∙ drawn (table_number floats (track_for row)) (known (tags_known row) inside d.over h ∙ sym d.number)

  pub without-name : (not (tags_known row) && inside) ≡ true → (x : X)
      → ((tr : scene.Track) → x ≡ call 2 tr) → x ≡ asked u
  unfolding track_number first_of
  without-name h x p = p (track_in floats (track_for row)) ∙ drawn 2 (unknown (tags_known row) inside d.over h)
