use Rattle.std.proofs.Common.{◌<◌, ◌^◌, [], ◌∷◌, length, refl, sym, subst, arith}
use Rattle.tc_lists.proofs.Firsts.{NoneOf-nil}
use Rattle.tc_lists.proofs.Bools.{some_from_test, none_from_test}
use Rattle.tc_model.specs.State.{Origin, IsName, origin_from}
use Rattle.tc_model.specs.Origins.{IsBroken}
use Rattle.tc_model.specs.declared.origins.OriginFault.TheVariants.{CentreName, AgentCount}
use Rattle.tc_model.specs.declared.origins.OriginFault.TheVariants.{AgentName, SameNames}
use Rattle.tc_model.specs.declared.origins.OriginFault.TheVariants.{Budget, TupleCount}
use Rattle.tc_model.proofs.FirstFaults.{first_fault, good_name, good_count, good_names}
use Rattle.tc_model.proofs.FirstFaults.{differing_names, good_budget}
use Rattle.tc_model.proofs.origins.check_origin.Goals as goal
use Rattle.tc_model.proofs.origins.check_origin.Goals.{then-is_empty-via-then-is_empty, then-is_empty-via-else-is_empty+then-agents}
use Rattle.tc_model.proofs.origins.check_origin.Goals.{then-budget-eq0-via-then-budget-eq0, then-budget-eq0-via-else-budget-eq0+then-budget-gt-MOST_BUDGET}

pub returns-then-not-is_name-clause-fault : goal.returns-then-not-is_name-clause-fault
returns-then-not-is_name-clause-fault c =
    let o : Origin = origin_from c.args.name.now c.args.agents.now c.args.budget c.args.tuples.now c.args.clauses.now in
    first_fault o [] (AgentCount ∷ AgentName ∷ SameNames ∷ Budget ∷ TupleCount ∷ []) CentreName refl (NoneOf-nil (IsBroken o))
    (λ name. c.is_name.ensures.no c.if-not-is_name.true (subst IsName (sym c.bytes.ensures) name))

pub returns-then-is_empty-clause-fault : goal.returns-then-is_empty-clause-fault
returns-then-is_empty-clause-fault c =
    let o : Origin = origin_from c.args.name.now c.args.agents.now c.args.budget c.args.tuples.now c.args.clauses.now in
    let none-1 = good_name o (subst IsName c.bytes.ensures (c.is_name.ensures.yes c.if-not-is_name.false)) in
    first_fault o (CentreName ∷ []) (AgentName ∷ SameNames ∷ Budget ∷ TupleCount ∷ []) AgentCount refl none-1
    (λ some few. elim c.then-is_empty.branch [ then-is_empty-via-then-is_empty w ↦ absurd (omega (arith, some, none_from_test (length c.args.agents.now) c.is_empty.result c.is_empty.ensures w.if-is_empty.true)) | then-is_empty-via-else-is_empty+then-agents w ↦ absurd (omega (arith, few, w.if-agents)) ])

pub returns-then-not-are_names-clause-fault : goal.returns-then-not-are_names-clause-fault
returns-then-not-are_names-clause-fault c =
    let o : Origin = origin_from c.args.name.now c.args.agents.now c.args.budget c.args.tuples.now c.args.clauses.now in
    let none-1 = good_name o (subst IsName c.bytes.ensures (c.is_name.ensures.yes c.if-not-is_name.false)) in
    let some : 0 < length c.args.agents.now = some_from_test (length c.args.agents.now) c.is_empty.result c.is_empty.ensures c.if-is_empty.false in
    let few : length c.args.agents.now < 2 ^ 32 = omega (arith, c.if-agents.false) in
    let none-2 = good_count o none-1 some few in
    first_fault o (CentreName ∷ AgentCount ∷ []) (SameNames ∷ Budget ∷ TupleCount ∷ []) AgentName refl none-2
    (c.are_names.ensures.no c.if-not-are_names.true)

pub returns-then-not-all_differ-clause-fault : goal.returns-then-not-all_differ-clause-fault
returns-then-not-all_differ-clause-fault c =
    let o : Origin = origin_from c.args.name.now c.args.agents.now c.args.budget c.args.tuples.now c.args.clauses.now in
    let none-1 = good_name o (subst IsName c.bytes.ensures (c.is_name.ensures.yes c.if-not-is_name.false)) in
    let some : 0 < length c.args.agents.now = some_from_test (length c.args.agents.now) c.is_empty.result c.is_empty.ensures c.if-is_empty.false in
    let few : length c.args.agents.now < 2 ^ 32 = omega (arith, c.if-agents.false) in
    let none-2 = good_count o none-1 some few in
    let none-3 = good_names o none-2 (c.are_names.ensures.yes c.if-not-are_names.false) in
    first_fault o (CentreName ∷ AgentCount ∷ AgentName ∷ []) (Budget ∷ TupleCount ∷ []) SameNames refl none-3
    (c.all_differ.ensures.no c.if-not-all_differ.true)

pub returns-then-budget-eq0-clause-fault : goal.returns-then-budget-eq0-clause-fault
returns-then-budget-eq0-clause-fault c =
    let o : Origin = origin_from c.args.name.now c.args.agents.now c.args.budget c.args.tuples.now c.args.clauses.now in
    let none-1 = good_name o (subst IsName c.bytes.ensures (c.is_name.ensures.yes c.if-not-is_name.false)) in
    let some : 0 < length c.args.agents.now = some_from_test (length c.args.agents.now) c.is_empty.result c.is_empty.ensures c.if-is_empty.false in
    let few : length c.args.agents.now < 2 ^ 32 = omega (arith, c.if-agents.false) in
    let none-2 = good_count o none-1 some few in
    let none-3 = good_names o none-2 (c.are_names.ensures.yes c.if-not-are_names.false) in
    let none-4 = differing_names o none-3 (c.all_differ.ensures.yes c.if-not-all_differ.false) in
    first_fault o (CentreName ∷ AgentCount ∷ AgentName ∷ SameNames ∷ []) (TupleCount ∷ []) Budget refl none-4
    (λ some most. elim c.then-budget-eq0.branch [ then-budget-eq0-via-then-budget-eq0 w ↦ absurd (omega (arith, some, w.if-budget-eq0)) | then-budget-eq0-via-else-budget-eq0+then-budget-gt-MOST_BUDGET w ↦ absurd (omega (arith, most, w.if-budget-gt-MOST_BUDGET)) ])

pub returns-then-tuples-gt-MOST_TUPLES-clause-fault : goal.returns-then-tuples-gt-MOST_TUPLES-clause-fault
returns-then-tuples-gt-MOST_TUPLES-clause-fault c =
    let o : Origin = origin_from c.args.name.now c.args.agents.now c.args.budget c.args.tuples.now c.args.clauses.now in
    let none-1 = good_name o (subst IsName c.bytes.ensures (c.is_name.ensures.yes c.if-not-is_name.false)) in
    let some : 0 < length c.args.agents.now = some_from_test (length c.args.agents.now) c.is_empty.result c.is_empty.ensures c.if-is_empty.false in
    let few : length c.args.agents.now < 2 ^ 32 = omega (arith, c.if-agents.false) in
    let none-2 = good_count o none-1 some few in
    let none-3 = good_names o none-2 (c.are_names.ensures.yes c.if-not-are_names.false) in
    let none-4 = differing_names o none-3 (c.all_differ.ensures.yes c.if-not-all_differ.false) in
    let none-5 = good_budget o none-4 (omega (arith, c.if-budget-eq0.false)) (omega (arith, c.if-budget-gt-MOST_BUDGET.false)) in
    first_fault o (CentreName ∷ AgentCount ∷ AgentName ∷ SameNames ∷ Budget ∷ []) [] TupleCount refl none-5
    (λ few. absurd (omega (arith, few, c.if-tuples-gt-MOST_TUPLES.true)))
