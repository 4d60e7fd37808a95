use Rattle.set_operations.specs.StoredLaws.{planned_names, s_inter_store_carries, s_union_store_carries, s_diff_store_carries}
use Rattle.set_operations.proofs.plan.plan_stored.Goals as goal

pub returns-in-SInterStore-clause-plan : goal.returns-in-SInterStore-clause-plan
returns-in-SInterStore-clause-plan g c =
    planned_names _ _ _ _ c.args.moment c.args.version _ _ c.in-SInterStore.is c.requires.within (rw c.as_slice.ensures at c.store.ensures.plan) (rw c.as_slice.ensures at c.store.ensures.names)
    (λ within rows names. s_inter_store_carries rows c.args.moment c.args.version _ _ _ within names)

pub returns-in-SUnionStore-clause-plan : goal.returns-in-SUnionStore-clause-plan
returns-in-SUnionStore-clause-plan g c =
    planned_names _ _ _ _ c.args.moment c.args.version _ _ c.in-SUnionStore.is c.requires.within (rw c.as_slice-in-SUnionStore.ensures at c.store-in-SUnionStore.ensures.plan) (rw c.as_slice-in-SUnionStore.ensures at c.store-in-SUnionStore.ensures.names)
    (λ within rows names. s_union_store_carries rows c.args.moment c.args.version _ _ _ within names)

pub returns-in-SDiffStore-clause-plan : goal.returns-in-SDiffStore-clause-plan
returns-in-SDiffStore-clause-plan g c =
    planned_names _ _ _ _ c.args.moment c.args.version _ _ c.in-SDiffStore.is c.requires.within (rw c.as_slice-in-SDiffStore.ensures at c.store-in-SDiffStore.ensures.plan) (rw c.as_slice-in-SDiffStore.ensures at c.store-in-SDiffStore.ensures.names)
    (λ within rows names. s_diff_store_carries rows c.args.moment c.args.version _ _ _ within names)
