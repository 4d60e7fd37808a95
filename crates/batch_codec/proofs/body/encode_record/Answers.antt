use Rattle.std.proofs.Common.{◌≡◌, ◌≤◌, ℕ, List, [], ◌++◌, length, IfOk, ap, sym, ◌∙◌, subst, append_assoc, arith}
use Rattle.kv_base.specs.Map.{Bytes, size}
use Rattle.kv_base.specs.Fields.{u32, u64}
use Rattle.batch_codec.specs.Batches.{Batch, BatchEntry}
use Rattle.batch_codec.specs.BodyLaws.{length-body, entries_have_bytes}
use Rattle.batch_codec.specs.Bodies.{body_of, entries_text}
use Rattle.batch_codec.proofs.body.encode_record.Goals as goal

pub overflow_cast-len : goal.overflow_cast-len
unfolding size
overflow_cast-len c =
    let whole = length-body c.args.seq c.args.moment c.args.batch.now in
    let bound = entries_have_bytes c.args.batch.now.entries in
    omega (arith, whole, bound, c.len.ensures.count, c.requires.fits)

pub write_entries-requires : goal.write_entries-requires
write_entries-requires c =
    let whole = length-body c.args.seq c.args.moment c.args.batch.now in
    let same = ap (λ es. length (entries_text es)) c.entries.ensures.all in
    omega (arith, whole, same, c.requires.fits)

encoded : (seq moment : ℕ) (batch : Batch) {none one two three four : Bytes} {count : ℕ} {es : List BatchEntry} → none ≡ [] → one ≡ none ++ u64 seq → two ≡ one ++ u64 moment
    → count ≡ size batch → three ≡ two ++ u32 count → four ≡ three ++ entries_text es → es ≡ batch.entries → four ≡ body_of seq moment batch
unfolding body_of
encoded seq moment batch a b c counted d e all =
    let head = b ∙ ap (λ w. w ++ u64 seq) a in
    let time = c ∙ ap (λ w. w ++ u64 moment) head in
    let number = d ∙ (λ i. time i ++ u32 (counted i)) in
    e ∙ (λ i. number i ++ entries_text (all i))
    ∙ append_assoc (u64 seq ++ u64 moment) (u32 (size batch)) (entries_text batch.entries)
    ∙ append_assoc (u64 seq) (u64 moment) (u32 (size batch) ++ entries_text batch.entries)

pub finish-requires : goal.finish-requires
finish-requires c =
    let whole = encoded c.args.seq c.args.moment c.args.batch.now c.in_ok-body.ensures c.in_ok-put_u64.ensures.ok c.in_ok-put_u64-2.ensures.ok c.len.ensures.count c.in_ok-put_u32.ensures.ok c.in_ok-write_entries.ensures c.entries.ensures.all in
    omega (arith, ap (λ (b : Bytes). length b) whole, c.requires.fits)

pub returns : goal.returns
returns c =
    let whole = encoded c.args.seq c.args.moment c.args.batch.now c.in_ok-body.ensures c.in_ok-put_u64.ensures.ok c.in_ok-put_u64-2.ensures.ok c.len.ensures.count c.in_ok-put_u32.ensures.ok c.in_ok-write_entries.ensures c.entries.ensures.all in
    subst (λ (b : Bytes). IfOk c.finish.result (λ body. body ≡ b)) whole c.finish.ensures
