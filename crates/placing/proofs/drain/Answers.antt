-- From where it stands the run ends as from the start.
use mathlib.Core.Path.{refl, sym, ap, ◌∙◌}
use Prim.Native.Nat.{ℕ}
use native.Mathlib.Omega.{arith}
use lib.ListN.{replicate}
use Rattle.placing.specs.declared.Run.{Run}
use Rattle.placing.specs.WalkRoom.{marks_in}
use Rattle.placing.proofs.Going.{at_first, less, next, at_last}
use Rattle.placing.proofs.drain.Goals as goal

pub loop-h-init : goal.loop-h-init
loop-h-init c = (
  at_first _ _ _ _ c.requires.ready c.requires.named,
  record { stack = refl; places = refl; order = refl },
  record { stack = refl; places = refl; order = refl },
)

pub step-h-requires : goal.step-h-requires
step-h-requires c = record { ready = c.loop-h.invariant.0.ready; top_nonzero = c.loop-h-test.true }

pub overflow_add-taken : goal.overflow_add-taken
overflow_add-taken c = omega (arith, c.loop-h.invariant.0.turns, c.requires.ready.room)

pub loop-h-smaller : goal.loop-h-smaller
loop-h-smaller c = omega (arith, less _ _ _ _ _ _ _ _ c.loop-h.invariant.0 c.loop-h-test.true _ _ _ c.step-h.ensures.steps)

pub loop-h-preserved : goal.loop-h-preserved
loop-h-preserved c =
    let i = c.loop-h.invariant in
    let e = c.step-h.ensures in (
      next _ _ _ _ _ _ _ _ i.0 c.loop-h-test.true _ _ _ e.steps e.same_lengths.stack e.same_lengths.places e.same_lengths.order,
      record {
        stack = e.same_slices.stack ∙ i.1.stack;
        places = e.same_slices.places ∙ i.1.places;
        order = e.same_slices.order ∙ i.1.order;
      },
      record {
        stack = e.same_lengths.stack ∙ i.2.stack;
        places = e.same_lengths.places ∙ i.2.places;
        order = e.same_lengths.order ∙ i.2.order;
      },
    )

pub returns : goal.returns
returns c =
    let l = c.loop-h in
    let i = l.invariant in
    record {
      drains = record {
        walk = c.finish.ensures.1 ∙ ap (λ (n : ℕ). replicate n 0) i.2.stack;
        ended =
            at_last _ _ _ _ _ _ _ _ i.0 (omega (arith, c.loop-h-test.false))
            ∙ ap (λ (r : Run). record { marks = marks_in l.walk r.placed; taken = r.taken }) (sym c.finish.ensures.0);
      };
      same_slices = record { stack = i.1.stack; places = i.1.places; order = i.1.order };
      same_lengths = record { stack = c.finish.auto.walk ∙ i.2.stack; places = i.2.places; order = i.2.order };
    }
