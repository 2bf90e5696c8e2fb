use Rattle.std.proofs.Common.{rules, arith}
use Rattle.std.proofs.lemmas.Result.{err_from_is_err_and}
use Rattle.certificate.proofs.Firsts.{first_no_then, first_no_stop}
use Rattle.certificate.proofs.asking.ask_strengths.Goals as goal

pub returns-in_err-ask_list : goal.returns-in_err-ask_list
returns-in_err-ask_list c = search (rules, first_no_stop, err_from_is_err_and)

pub returns : goal.returns
returns c = grind (arith, first_no_then)
