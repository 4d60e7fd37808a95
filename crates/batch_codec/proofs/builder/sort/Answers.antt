use Rattle.std.proofs.Common.{rules}
use Rattle.std.specs.Ordering.{is_lt}
use Rattle.std.specs.Cmp.Lexicographic.{nat_list_cmp_total}
use Rattle.std.proofs.lemmas.Fn.{always_returns_same}
use Rattle.std.proofs.lemmas.List.Sorted.{ranks_by}
use Rattle.batch_codec.specs.Slots.{raw_cmp}
use Rattle.batch_codec.proofs.builder.sort.Goals as goal

pub returns-clause-ascending : goal.returns-clause-ascending
returns-clause-ascending c =
    c.in_ok-sort_by.ensures.sorted (λ entry other. is_lt (raw_cmp entry other)) (ranks_by nat_list_cmp_total (λ entry. entry.raw)) (always_returns_same _ _ _ (λ a r f called. search rules))

pub returns-clause-stable : goal.returns-clause-stable
returns-clause-stable c =
    c.sort_by.ensures.stable (λ entry other. is_lt (raw_cmp entry other)) (ranks_by nat_list_cmp_total (λ entry. entry.raw)) (always_returns_same _ _ _ (λ a r f called. search rules))
