use Rattle.std.proofs.Common.{◌≡◌, ℕ, List, subst}
use Rattle.certificate.specs.Layout.{section_of}
use Rattle.certificate.specs.Lookup.{chosen_list, list_section}
use Rattle.certificate.specs.declared.layout.Section.TheVariants as section
use Rattle.certificate.specs.declared.lookup.Concrete.{Concrete}
use Rattle.certificate.specs.declared.lookup.Concrete.TheVariants.{Cracked, Uncracked}
use Rattle.rating.specs.Strengths.{FactorIn}
use Rattle.rating.proofs.strength.strength_factor.Goals as goal

-- the list chosen from both is that of the state's section
chosen : (bs xs ys : List ℕ) (s : Concrete) → xs ≡ section_of bs section.Cracked → ys ≡ section_of bs section.Uncracked → chosen_list xs ys s ≡ section_of bs (list_section s)
chosen bs xs ys Cracked e f = e
chosen bs xs ys Uncracked e f = f

pub returns-clause-value : goal.returns-clause-value
returns-clause-value c =
    subst (λ l. FactorIn l c.args.strength c.factor_in.result)
    (chosen c.args.certificate.now.bytes.now _ _ c.args.concrete c.strengths.ensures.bytes c.strengths-2.ensures.bytes) c.factor_in.ensures
