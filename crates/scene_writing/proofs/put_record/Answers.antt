use Rattle.tables.specs.Decoded.{lent_of}
use Rattle.spelling.specs.Pushed.{out_at}
use Rattle.scene_writing.proofs.TableLaws.{last-table, put-arm}
use Rattle.scene_writing.proofs.put_record.Goals as goal

pub returns-in_default : goal.returns-in_default
returns-in_default c =
    put-arm (lent_of c.args.lent) c.args.t c.args.i (out_at c.args.out.now c.args.at) (last-table _ c.requires c.in_default.in_default-own.rest)
    c.put_skeleton.ensures

pub returns-in-0 : goal.returns-in-0
returns-in-0 c =
    put-arm (lent_of c.args.lent) c.args.t c.args.i (out_at c.args.out.now c.args.at) c.in-0.is c.put_node.ensures

pub returns-in-1 : goal.returns-in-1
returns-in-1 c =
    put-arm (lent_of c.args.lent) c.args.t c.args.i (out_at c.args.out.now c.args.at) c.in-1.is c.put_channel.ensures

pub returns-in-2 : goal.returns-in-2
returns-in-2 c =
    put-arm (lent_of c.args.lent) c.args.t c.args.i (out_at c.args.out.now c.args.at) c.in-2.is c.put_mesh.ensures

pub returns-in-3 : goal.returns-in-3
returns-in-3 c =
    put-arm (lent_of c.args.lent) c.args.t c.args.i (out_at c.args.out.now c.args.at) c.in-3.is c.put_primitive.ensures

pub returns-in-4 : goal.returns-in-4
returns-in-4 c =
    put-arm (lent_of c.args.lent) c.args.t c.args.i (out_at c.args.out.now c.args.at) c.in-4.is c.put_target.ensures

pub returns-in-5 : goal.returns-in-5
returns-in-5 c =
    put-arm (lent_of c.args.lent) c.args.t c.args.i (out_at c.args.out.now c.args.at) c.in-5.is c.put_in_between.ensures

pub returns-in-6 : goal.returns-in-6
returns-in-6 c =
    put-arm (lent_of c.args.lent) c.args.t c.args.i (out_at c.args.out.now c.args.at) c.in-6.is c.put_skin.ensures
