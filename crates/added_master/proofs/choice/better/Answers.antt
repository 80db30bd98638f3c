use Rattle.std.proofs.Common.{◌≡◌, ◌<◌, ◌≤◌, Bool, true, false, Some, nat_lt, arith, refl, sym, ap}
use Rattle.std.specs.Prelude.{if◌then◌else◌}
use Rattle.std.proofs.lemmas.Bool.Decides.{nat_tests}
use Rattle.added_master.specs.declared.master.AddedMaster.{AddedMaster}
use Rattle.added_master.specs.Choice.{better}
use Rattle.added_master.proofs.choice.better.Goals as goal

second_of : (a b : AddedMaster) → a.matches < b.matches → Some b ≡ better (Some a) (Some b)
unfolding better
second_of a b h = let e : nat_lt a.matches b.matches ≡ true = grind (arith, nat_tests, h) in sym (ap (λ (t : Bool). if t then Some b else Some a) e)

first_of : (a b : AddedMaster) → b.matches ≤ a.matches → Some a ≡ better (Some a) (Some b)
unfolding better
first_of a b h = let e : nat_lt a.matches b.matches ≡ false = grind (arith, nat_tests, h) in sym (ap (λ (t : Bool). if t then Some b else Some a) e)

pub returns-in-Some-Some : goal.returns-in-Some-Some
returns-in-Some-Some c = rw (c.in-Some-Some.is-0, c.in-Some-Some.is-1) (second_of c.in-Some-Some.a c.in-Some-Some.b c.if-a-b.true)

pub returns-in-None-Some : goal.returns-in-None-Some
unfolding better
returns-in-None-Some c = rw (c.in-None-Some.is-0, c.in-None-Some.is-1) refl

pub returns-in_default : goal.returns-in_default
returns-in_default c = rw (c.in-Some-Some.is-0, c.in-Some-Some.is-1) (first_of c.in-Some-Some.a c.in-Some-Some.b c.if-a-b.false)

pub returns-in_default-2 : goal.returns-in_default-2
unfolding better
returns-in_default-2 c = rw (c.in_default.is-0, c.in_default.is-1) refl

pub returns-in_default-3 : goal.returns-in_default-3
unfolding better
returns-in_default-3 c = rw (c.in_default.is-0, c.in_default.is-1) refl
