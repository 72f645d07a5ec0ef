use Rattle.std.proofs.Common.{[], ◌∷◌, ap, sym, ◌∙◌, subst, IsSome, is_some}
use Rattle.std.specs.Ordering.{nat_cmp}
use Rattle.std.specs.FinMap.{get, get-empty}
use Rattle.busdma_rules.specs.Lending.Loans.{Loans}
use Rattle.loan_table.specs.Table.{AreIn, AreNew}
use Rattle.loan_table.proofs.Inside.{put_there}
use Rattle.loan_table.proofs.Removal.{AreNew-empty}
use Rattle.rules_tests.proofs.tests.maps.add_map.Goals as goal

pub add_bytes-requires-clause-fresh : goal.add_bytes-requires-clause-fresh
add_bytes-requires-clause-fresh c =
    subst (λ bytes. AreNew bytes (6 ∷ [])) (sym c.requires.bytes) (AreNew-empty (6 ∷ []))

pub add_map-requires-clause-fresh : goal.add_map-requires-clause-fresh
add_map-requires-clause-fresh c =
    ap (λ (loans : Loans). is_some (get loans 3)) (c.add_bytes.ensures.loans ∙ c.requires.loans)
    ∙ ap is_some (get-empty nat_cmp 3)

pub add_map-requires-clause-there : goal.add_map-requires-clause-there
add_map-requires-clause-there c =
    subst (λ bytes. AreIn bytes (6 ∷ 6 ∷ [])) (sym c.in_ok-add_bytes.ensures.bytes)
    (put_there _ _ _, (put_there _ _ _, tt))

pub len_of-requires : goal.len_of-requires
len_of-requires c =
    subst (λ (loans : Loans). IsSome (get loans 3)) (sym c.in_ok-add_map.ensures.loans) (put_there _ _ _)
