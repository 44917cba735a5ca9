-- What the pool hands out, or that it has no number left.
use Rattle.desk_pool.specs.Slots.{hit_d}
use Rattle.desk_pool.proofs.Calls.{number_handed, none_handed}
use Rattle.desk_pool.proofs.hit.Goals as goal

pub returns-in-Some : goal.returns-in-Some
unfolding hit_d
returns-in-Some c =
    simp (← c.is_pool.ensures, c.if-not-is_pool.false) (number_handed c.args.a c.args.b c.args.p _ _ _ _ (rw c.in-Some.is at c.hit.ensures))

pub returns-in-None : goal.returns-in-None
unfolding hit_d
returns-in-None c =
    simp (← c.is_pool.ensures, c.if-not-is_pool.false) (none_handed c.args.a c.args.b c.args.p _ _ _ (rw c.in-None.is at c.hit.ensures))
