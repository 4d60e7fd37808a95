-- Members that are told one by one.
use Rattle.std.proofs.Common.{◌≡◌, refl, sym, ap, ◌∙◌, Bool, true, false, List, [], ◌∷◌, ◌++◌, reverse, map}
use Rattle.std.proofs.lemmas.List.{append-nil, map-append, reverse-append, reverse-reverse}
use Rattle.std.specs.List.{flat_map}
use Rattle.redis_model.specs.declared.reply.Reply.{Reply}
use Rattle.redis_model.specs.declared.reply.Reply.TheVariants as reply
use Rattle.redis_model.specs.SortedSets.{Scored, told}
use Rattle.zset_pages.specs.declared.ranks.Ranked.{Ranked}
use Rattle.zset_pages.specs.Ranks.{scored_of}
use Rattle.zset_reads.specs.ReadPlans.{member_parts}

-- what is told of members from the last one to the first
abbrev pub parts_back : Bool → List Ranked → List Reply
parts_back scores ranks = flat_map (member_parts scores) (reverse (map scored_of ranks))

-- the last one is told first
pub last_first : (scores : Bool) (front : List Ranked) (rank : Ranked) → parts_back scores (front ++ rank ∷ []) ≡ member_parts scores (scored_of rank) ++ parts_back scores front
last_first scores front rank = ap (λ es. flat_map (member_parts scores) (reverse es)) (map-append scored_of front (rank ∷ [])) ∙ ap (flat_map (member_parts scores)) (reverse-append (map scored_of front) (scored_of rank ∷ []))

-- members are told part by part
pub told_parts : (scores : Bool) (es : List Scored) → told scores es ≡ reply.Array (flat_map (member_parts scores) es)
told_parts true es = refl
told_parts false es = ap reply.Array (members es)
  where
    members : (es : List Scored) → map reply.Bulk (map (λ (e : Scored). e.0) es) ≡ flat_map (member_parts false) es
    members [] = refl
    members (e ∷ es) = ap (λ rest. reply.Bulk e.0 ∷ rest) (members es)

-- so where none are left all are told
pub all_told : (scores : Bool) (left ranks : List Ranked) (parts : List Reply) → left ≡ [] → parts ++ parts_back scores left ≡ parts_back scores ranks → reply.Array parts ≡ told scores (reverse (map scored_of ranks))
all_told scores left ranks parts none is =
    ap reply.Array (sym (append-nil parts) ∙ ap (λ ls. parts ++ parts_back scores ls) (sym none) ∙ is) ∙ sym (told_parts scores (reverse (map scored_of ranks)))

-- turned round twice they are in their order again
turned : (ranks : List Ranked) → map scored_of (reverse ranks) ≡ reverse (map scored_of ranks)
turned [] = refl
turned (rank ∷ ranks) =
    ap (map scored_of) (reverse-append (rank ∷ []) ranks) ∙ map-append scored_of (reverse ranks) (rank ∷ []) ∙ ap (λ es. es ++ scored_of rank ∷ []) (turned ranks)
    ∙ sym (reverse-append (scored_of rank ∷ []) (map scored_of ranks))

pub back_again : (ranks back : List Ranked) → back ≡ reverse ranks → reverse (map scored_of back) ≡ map scored_of ranks
back_again ranks back is = ap (λ b. reverse (map scored_of b)) is ∙ ap reverse (turned ranks) ∙ reverse-reverse (map scored_of ranks)
