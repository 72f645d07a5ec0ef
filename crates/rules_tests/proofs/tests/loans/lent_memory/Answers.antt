use Rattle.std.proofs.Common.{ap, sym, ◌∙◌, subst, true, IsSome, is_some, append-nil, arith}
use Rattle.std.specs.Ordering.{nat_cmp}
use Rattle.std.specs.FinMap.{get, get-empty}
use Rattle.busdma_machine.specs.Runs.{run_of}
use Rattle.busdma_rules.specs.Lending.Loans.{Loans}
use Rattle.loan_table.specs.Table.{AreIn, AreNew}
use Rattle.loan_table.proofs.Inside.{AreIn-inside, put_there}
use Rattle.loan_table.proofs.Removal.{AreNew-empty}
use Rattle.rules_tests.proofs.tests.loans.lent_memory.Goals as goal

pub add_bytes-requires-clause-fresh : goal.add_bytes-requires-clause-fresh
add_bytes-requires-clause-fresh c =
    subst (λ bytes. AreNew bytes (run_of 0 c.args.len))
    (sym c.new-table.ensures.bytes) (AreNew-empty (run_of 0 c.args.len))

pub add_map-requires-clause-fresh : goal.add_map-requires-clause-fresh
add_map-requires-clause-fresh c =
    ap (λ (loans : Loans). is_some (get loans c.lent.result.made_at)) (c.add_bytes.ensures.loans
    ∙ c.new-table.ensures.loans) ∙ ap is_some (get-empty nat_cmp c.lent.result.made_at)

pub add_map-requires-clause-there : goal.add_map-requires-clause-there
add_map-requires-clause-there c =
    subst (λ bytes. AreIn c.add_bytes.new.self.bytes bytes) (sym (append-nil (run_of 4096 4096)))
    (subst (λ bytes. AreIn bytes (run_of 4096 4096)) (sym c.in_ok-add_bytes.ensures.bytes)
    (AreIn-inside c.new-table.result.bytes 0 c.args.len true 4096 4096 (omega arith) (omega arith)))

pub returns-clause-map : goal.returns-clause-map
returns-clause-map c =
    subst (λ m. IsSome (get c.add_map.new.self.loans m)) c.lent.ensures
    (subst (λ (loans : Loans). IsSome (get loans c.lent.result.made_at)) (sym c.in_ok-add_map.ensures.loans)
    (put_there _ _ _))

pub returns-clause-all : goal.returns-clause-all
returns-clause-all c a k below =
    subst (λ bytes. AreIn bytes (run_of a k)) (sym (c.add_map.ensures.bytes ∙ c.in_ok-add_bytes.ensures.bytes))
    (AreIn-inside c.new-table.result.bytes 0 c.args.len true a k (omega arith) (omega (arith, below)))
