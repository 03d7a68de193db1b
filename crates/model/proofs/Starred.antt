-- The starred lines hold: one theorem, by computation. Assumes nothing.
use mathlib.Core.Path.{refl}
use mathlib.Core.List.{zip_with}
use lib.Ieee.{add, sub, mul, div, neg, lt, le, eq, is_nan, of_int, of_bits, round}
use Rattle.turn.proofs.Turn.{weight-of-0, weight-of-1}
use Rattle.model.specs.Lists.{foldl, keep, every, any_of, sum_of, tabulate, indexed}
use Rattle.model.specs.Vector.{total, dot}
use Rattle.model.specs.Matrix.{moved}
use Rattle.model.specs.Sampling.{rising, in_line, locate_from, locate, lerp, value_factor, out_factor, next_factor, in_factor, cubic, interpolated, value_at, sample}
use Rattle.model.specs.Placing.{listed, walk, placed_of, trace, order, taken}
use Rattle.model.specs.Parents.{mark_roots, mark_one, mark_all, take_id, explore, marks_of}
use Rattle.model.specs.Morph.{with_deltas, inserted, stations, segment_from, between, station_target, with_target, with_targets}
use Rattle.model.specs.Vertices.{influences, skinned}
use Rattle.model.specs.Refusals.{first_of, sample_number}
use Rattle.model.specs.Agree.{Each}
use Rattle.model.specs.Starred.{Holds, table}

pub starred : Each Holds table
unfolding add sub mul div neg lt le eq is_nan of_int of_bits round zip_with foldl keep every any_of sum_of tabulate indexed total dot moved
    rising in_line locate_from locate lerp value_factor out_factor next_factor in_factor cubic interpolated value_at sample listed walk placed_of trace order taken mark_roots mark_one mark_all take_id explore marks_of
    with_deltas inserted stations segment_from between station_target with_target with_targets influences skinned first_of sample_number
starred = (refl, (refl, (refl, (refl, (refl, (refl, (refl, (refl, (refl, (refl, (weight-of-0, (weight-of-1, ((refl, refl), (refl, ((refl, refl), ((refl, refl), (refl, (refl, (refl, (refl, (refl, (refl, tt))))))))))))))))))))))
