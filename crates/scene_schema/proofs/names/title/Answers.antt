use mathlib.Core.Path.{refl}
use mathlib.Core.Bool.{true}
use Rattle.model.specs.Lists.{tabulate}
use Rattle.scene_schema.specs.Numbers.{titles, no_name}
use Rattle.scene_schema.proofs.Tables.{arm, last_arm}
use Rattle.scene_schema.proofs.names.title.Goals as goal

pub returns-in_default : goal.returns-in_default
unfolding tabulate
returns-in_default c = last_arm titles no_name (λ i. true) refl _ c.in_default.in_default-own.rest

pub returns-in-0 : goal.returns-in-0
returns-in-0 c = arm titles no_name c.in-0.is

pub returns-in-1 : goal.returns-in-1
returns-in-1 c = arm titles no_name c.in-1.is

pub returns-in-2 : goal.returns-in-2
returns-in-2 c = arm titles no_name c.in-2.is

pub returns-in-3 : goal.returns-in-3
returns-in-3 c = arm titles no_name c.in-3.is

pub returns-in-4 : goal.returns-in-4
returns-in-4 c = arm titles no_name c.in-4.is

pub returns-in-5 : goal.returns-in-5
returns-in-5 c = arm titles no_name c.in-5.is

pub returns-in-6 : goal.returns-in-6
returns-in-6 c = arm titles no_name c.in-6.is

pub returns-in-7 : goal.returns-in-7
returns-in-7 c = arm titles no_name c.in-7.is

pub returns-in-8 : goal.returns-in-8
returns-in-8 c = arm titles no_name c.in-8.is
