-- A scene that is written as text, and the text read back, over the contracts of the writer and the reader
-- (request 2026-01). Definitions only.
use Rattle.std.specs.Prelude.{◌≡◌, false, List, ℕ, Float, take}
use Rattle.borrowed.specs.Slices.{Words, Change}
use Rattle.tables.specs.Decoded.{Lent}
use Rattle.checks.specs.Drawn.{lent_as, tables_number}
use Rattle.scene_forms.specs.Read.{Slices}
use Rattle.scene_spelling.specs.Written.{document_of}
use Rattle.scene_text.specs.declared.Reading.{Reading}
use Rattle.scene_text.specs.Scanned.{is_short}
use Rattle.scene_text.specs.Reading.{SceneRead, lengths_of, needed_by}
use Rattle.scene_writing.specs.declared.Written.{Written}
use Rattle.scene_writing.specs.Writing.{scene_text, SceneWritten}

-- the scene, node and time that were lent to the writer, its output and its answer; what the reader made of the bytes
-- that the answer counts, in slices that are long enough
pub record Trip (l : Lent) (node : ℕ) (time : Float) (out : Words) (w : Written) (c : Change Slices) (r : Reading)
    : Type 0 where
  pub wrote : SceneWritten l (scene_text l node time) out w
  pub accepted : w.number ≡ 0
  pub read : SceneRead (take w.length out.exit.now) c r
  pub room : is_short (lengths_of c.from) (needed_by (document_of l node time)) ≡ false

-- the scene that was read
abbrev pub read_back : Change Slices → Reading → Lent
read_back c r =
    lent_as c.to.words c.to.floats c.to.node_weights c.to.mesh_weights r.header

-- the reader accepts, answers the same node and time, and every record of every table, used or not, says what it said:
-- the two scenes have the same document; and the tables that were read draw no number
pub record Same (l : Lent) (node : ℕ) (time : Float) (c : Change Slices) (r : Reading) : Type 0 where
  pub number : r.number ≡ 0
  pub node_kept : r.node ≡ node
  pub time-kept : r.time ≡ time
  pub records : document_of (read_back c r) r.node r.time ≡ document_of l node time
  pub tables : tables_number (read_back c r) ≡ 0
