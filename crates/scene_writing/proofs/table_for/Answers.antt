use mathlib.Core.Path.{sym, ap}
use Rattle.scene_writing.specs.Forms.{table_for}
use Rattle.scene_writing.proofs.TableLaws.{last-table}
use Rattle.scene_writing.proofs.table_for.Goals as goal

pub returns-in_default : goal.returns-in_default
returns-in_default c =
    ap (table_for c.args.h) (sym (last-table _ c.requires c.in_default.in_default-own.rest))
