use native.Mathlib.Omega.{arith}
use Rattle.printing.proofs.LineLaws.{line-put}
use Rattle.printing.proofs.put_line.Goals as goal

pub returns : goal.returns
returns c = line-put c.args.items.now _ (omega arith) c.put_bytes-k.ensures c.put-2.ensures
