use Rattle.core_normal.proofs.PrologMade.{fun_counted, fun_entered, var_counted, var_entered}
use Rattle.core_normal.proofs.prolog.enter.Goals as goal

pub returns-in-Fun-clause-vars : goal.returns-in-Fun-clause-vars
returns-in-Fun-clause-vars c = λ ds. fun_entered _ _ _ _ _ _ _ _ ds c.in-Fun.is

pub returns-in-Fun-clause-count : goal.returns-in-Fun-clause-count
returns-in-Fun-clause-count c = λ ds. fun_counted _ _ _ _ _ _ _ ds c.in-Fun.is

pub returns-in_ok-next-in-Var-clause-vars : goal.returns-in_ok-next-in-Var-clause-vars
returns-in_ok-next-in-Var-clause-vars c = λ ds. var_entered _ _ _ _ _ _ _ _ _ _ ds c.in-Var.is c.in_ok-x-in-Var.ensures c.in_ok-set-in-Var.ensures c.in_ok-next-in-Var.ensures

pub returns-in_ok-next-in-Var-clause-count : goal.returns-in_ok-next-in-Var-clause-count
returns-in_ok-next-in-Var-clause-count c = λ ds. var_counted _ _ _ _ _ _ _ ds c.in-Var.is c.in_ok-next-in-Var.ensures
