use Rattle.std.proofs.Common.{rules, arith}
use Rattle.std.proofs.lemmas.Result.{err_from_is_err_and}
use Rattle.certificate.specs.Reading.{refusal}
use Rattle.certificate.proofs.Firsts.{first_no_then, first_no_stop}
use Rattle.certificate.proofs.asking.ask_certificate.Goals as goal

pub returns-in_err-ask_header : goal.returns-in_err-ask_header
unfolding refusal
returns-in_err-ask_header c = search (rules, first_no_stop, err_from_is_err_and)

pub returns-in_err-ask_layout : goal.returns-in_err-ask_layout
unfolding refusal
returns-in_err-ask_layout c = grind (arith, first_no_then, first_no_stop, err_from_is_err_and)

pub returns-in_err-ask_numbers : goal.returns-in_err-ask_numbers
unfolding refusal
returns-in_err-ask_numbers c = search (rules, first_no_then, first_no_stop, err_from_is_err_and)

pub returns : goal.returns
unfolding refusal
returns c = grind (arith, first_no_then)
