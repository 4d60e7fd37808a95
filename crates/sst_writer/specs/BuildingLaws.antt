-- A table with one row more.
use Rattle.std.proofs.Common.{◌≡◌, ℕ, ◌+◌, ◌<◌, ◌≤◌, List, [], ◌∷◌, ◌++◌, refl, sym, ap, ◌∙◌, Bool, true, false, cond, length, Option, Some, None, append_assoc, append-nil, length-append, arith}
use Rattle.std.specs.Prelude.{nat_le, nat_lt, IsTrue, ◌&&◌, ◌^◌, option_map}
use Rattle.std.proofs.lemmas.Bool.Decides.{nat_tests}
use Rattle.kv_base.specs.Map.{Bytes}
use Rattle.kv_base.specs.Fields.{text}
use Rattle.kv_base.specs.declared.row.Row.{Row}
use Rattle.sst_parts.specs.declared.index.Spot.{Spot}
use Rattle.sst_parts.specs.declared.key_hash.KeyHash.{KeyHash}
use Rattle.sst_parts.specs.RowTexts.{row_text, rows_text}
use Rattle.sst_parts.specs.Blocks.{block_size, is_full, is_next_row, with_block_row, filled, block_text, blocks_text}
use Rattle.sst_parts.specs.BlockListLaws.{rows_text-append, filled-push}
use Rattle.sst_parts.specs.Index.{last_raw, spots_from}
use Rattle.sst_parts.specs.Tables.{head_length}
use Rattle.sst_sums.specs.Summing.{AreSums, bare_row}
use Rattle.sst_parts.specs.BlockBodies.{are_u64, is_chain, last_row}
use Rattle.sst_parts.specs.BlockBodyLaws.{chain_joined}
use Rattle.kv_base.specs.InversionLaws.{both_first, both_second}
use Rattle.sst_writer.specs.Building.{IsBuilt, IsMore, IsClosed, AreThose}

-- ---- a row that may stand behind the others

both_true : (a b : Bool) → a ≡ true → b ≡ true → (a && b) ≡ true
both_true a b e f = rw (e, f) refl

next_of_bare : (last : Option Row) (row : Row) → is_next_row (option_map bare_row last) row ≡ true → is_next_row last row ≡ true
next_of_bare None row h = h
next_of_bare (Some last) row h = h

u64_joined : (rows : List Row) (row : Row) → IsTrue (are_u64 rows) → row.seq < 2 ^ 64 → IsTrue (are_u64 (rows ++ row ∷ []))
u64_joined [] row h low = both_true (nat_lt row.seq (2 ^ 64)) true (below row.seq low) refl
  where
    below : (n : ℕ) → n < 2 ^ 64 → nat_lt n (2 ^ 64) ≡ true
    below n h = grind (arith, nat_tests)
u64_joined (r ∷ rows) row h low = both_true (nat_lt r.seq (2 ^ 64)) (are_u64 (rows ++ row ∷ [])) (both_first (nat_lt r.seq (2 ^ 64)) (are_u64 rows) h) (u64_joined rows row (both_second (nat_lt r.seq (2 ^ 64)) (are_u64 rows) h) low)

-- ---- one row more

pub blocks_text-push : (closed : List (List Row)) (rows : List Row) → blocks_text (closed ++ rows ∷ []) ≡ blocks_text closed ++ block_text rows
blocks_text-push [] rows = append-nil (block_text rows)
blocks_text-push (b ∷ closed) rows = ap (λ (l : Bytes). block_text b ++ l) (blocks_text-push closed rows) ∙ sym (append_assoc (block_text b) (blocks_text closed) (block_text rows))

pub spots_from-push : (place : ℕ) (closed : List (List Row)) (rows : List Row)
    → spots_from place (closed ++ rows ∷ []) ≡ spots_from place closed ++ record { place = place + length (blocks_text closed); bytes = length (block_text rows); last = last_raw [] rows } ∷ []
unfolding spots_from
spots_from-push place [] rows = let none : place + 0 ≡ place = omega arith in ap (λ (k : ℕ). record { place = k; bytes = length (block_text rows); last = last_raw [] rows } ∷ []) (sym none)
spots_from-push place (b ∷ closed) rows =
    let parts = length-append (block_text b) (blocks_text closed) in
    let moved : (place + length (block_text b)) + length (blocks_text closed) ≡ place + length (block_text b ++ blocks_text closed) = omega (arith, parts) in
    ap (λ (l : List Spot). record { place = place; bytes = length (block_text b); last = last_raw [] b } ∷ l)
    (spots_from-push (place + length (block_text b)) closed rows ∙ ap (λ (k : ℕ). spots_from (place + length (block_text b)) closed ++ record { place = k; bytes = length (block_text rows); last = last_raw [] rows } ∷ []) moved)

last_raw-push : (raw : Bytes) (rows : List Row) (row : Row) → last_raw raw (rows ++ row ∷ []) ≡ row.raw
last_raw-push raw [] row = refl
last_raw-push raw (r ∷ rows) row = last_raw-push r.raw rows row

one_text : (row : Row) → rows_text (row ∷ []) ≡ row_text row
one_text row = append-nil (row_text row)

module _ (end : ℕ) (block pushed : Bytes) (spots : List Spot) (count : ℕ) (keys : List KeyHash) (least : Option Bytes) (last : Option Row) (rows : List Row) (row : Row) (built : IsBuilt end block spots count keys least last rows) (is : pushed ≡ block ++ row_text row) (next_is : is_next_row last row ≡ true) (low_seq : row.seq < 2 ^ 64) where
  chain_on : is_chain None (rows ++ row ∷ []) ≡ true
  chain_on = chain_joined None rows (row ∷ []) built.chain (both_true (is_next_row (last_row None rows) row) true (next_of_bare (last_row None rows) row (ap (λ (o : Option Row). is_next_row o row) (sym built.sums.last_is) ∙ next_is)) refl)

  sequences_on : IsTrue (are_u64 (rows ++ row ∷ []))
  sequences_on = u64_joined rows row built.sequences low_seq

  now_rows : List Row
  now_rows = (filled rows).waiting ++ row ∷ []

  pushed_is : pushed ≡ rows_text ((filled rows).waiting ++ row ∷ [])
  pushed_is = is ∙ ap (λ (b : Bytes). b ++ row_text row) built.waiting ∙ ap (λ (b : Bytes). rows_text (filled rows).waiting ++ b) (sym (one_text row)) ∙ sym (rows_text-append (filled rows).waiting (row ∷ []))

  stays_open : length pushed < block_size → filled (rows ++ row ∷ []) ≡ record { closed = (filled rows).closed; waiting = (filled rows).waiting ++ row ∷ [] }
  unfolding with_block_row
  stays_open low =
      let waiting = (filled rows).waiting ++ row ∷ [] in
      let test : is_full waiting ≡ false = below (length (rows_text waiting)) (let same_length = ap (λ (b : Bytes). length b) pushed_is in omega (arith, same_length, low)) in
      filled-push rows row ∙ ap (λ b. cond b (record { closed = (filled rows).closed ++ waiting ∷ []; waiting = [] }) (record { closed = (filled rows).closed; waiting = waiting })) test
    where
      below : (n : ℕ) → n < block_size → nat_le block_size n ≡ false
      below n h = grind (arith, nat_tests)

  closes : block_size ≤ length pushed → filled (rows ++ row ∷ []) ≡ record { closed = (filled rows).closed ++ ((filled rows).waiting ++ row ∷ []) ∷ []; waiting = [] }
  unfolding with_block_row
  closes high =
      let waiting = (filled rows).waiting ++ row ∷ [] in
      let test : is_full waiting ≡ true = enough (length (rows_text waiting)) (let same_length = ap (λ (b : Bytes). length b) pushed_is in omega (arith, same_length, high)) in
      filled-push rows row ∙ ap (λ b. cond b (record { closed = (filled rows).closed ++ waiting ∷ []; waiting = [] }) (record { closed = (filled rows).closed; waiting = waiting })) test
    where
      enough : (n : ℕ) → block_size ≤ n → nat_le block_size n ≡ true
      enough n h = grind (arith, nat_tests)

  pub open_built : (total : ℕ) (more : List KeyHash) (first : Option Bytes) (now : Option Row) → length pushed < block_size → AreSums total more first now (rows ++ row ∷ []) → IsBuilt end pushed spots total more first now (rows ++ row ∷ [])
  open_built total more first now low sums =
      let it = stays_open low in
      record {
        place = built.place ∙ ap (λ f. head_length + length (blocks_text f.closed)) (sym it);
        waiting = pushed_is ∙ ap (λ f. rows_text f.waiting) (sym it);
        index = built.index ∙ ap (λ f. spots_from head_length f.closed) (sym it);
        sums = sums;
        chain = chain_on;
        sequences = sequences_on;
      }

  pub open_more : length pushed < block_size → IsMore rows row []
  open_more low = record { is = ap (λ f. blocks_text f.closed) (stays_open low) ∙ sym (append-nil (blocks_text (filled rows).closed)) }

  module _ (high : block_size ≤ length pushed) (raw : Bytes) (raw_is : raw ≡ row.raw) (next : ℕ) (left : Bytes) (more_spots : List Spot) (bytes : Bytes) (closed : IsClosed end pushed spots raw next left more_spots bytes) where
    bytes_is : bytes ≡ block_text ((filled rows).waiting ++ row ∷ [])
    unfolding block_text
    bytes_is = closed.bytes_are ∙ ap text pushed_is

    pub closed_built : (total : ℕ) (more : List KeyHash) (first : Option Bytes) (now : Option Row) → AreSums total more first now (rows ++ row ∷ []) → IsBuilt next left more_spots total more first now (rows ++ row ∷ [])
    closed_built total more first now sums =
        let it = closes high in
        let waiting = (filled rows).waiting ++ row ∷ [] in
        let parts = ap (λ (b : Bytes). length b) (blocks_text-push (filled rows).closed waiting) ∙ length-append (blocks_text (filled rows).closed) (block_text waiting) in
        let long = ap (λ (b : Bytes). length b) bytes_is in
        let moved = ap (λ f. length (blocks_text f.closed)) it in
        record {
          place = omega (arith, closed.next_is, built.place, parts, long, moved);
          waiting = closed.empty ∙ ap (λ f. rows_text f.waiting) (sym it);
          index =
              closed.spots_are
              ∙ (λ i. built.index i ++ record { place = built.place i; bytes = long i; last = (raw_is ∙ sym (last_raw-push [] (filled rows).waiting row)) i } ∷ [])
              ∙ sym (spots_from-push head_length (filled rows).closed waiting)
              ∙ ap (λ f. spots_from head_length f.closed) (sym it);
          sums = sums;
          chain = chain_on;
          sequences = sequences_on;
        }

    pub closed_more : IsMore rows row bytes
    closed_more = record {
      is = ap (λ f. blocks_text f.closed) (closes high) ∙ blocks_text-push (filled rows).closed ((filled rows).waiting ++ row ∷ []) ∙ ap (λ (b : Bytes). blocks_text (filled rows).closed ++ b) (sym bytes_is);
    }

-- ---- none, and what a block that closes leaves

pub none_built : (block : Bytes) (spots : List Spot) (count : ℕ) (keys : List KeyHash) (least : Option Bytes) (last : Option Row) → block ≡ [] → spots ≡ [] → AreSums count keys least last [] → IsBuilt head_length block spots count keys least last []
unfolding filled spots_from
none_built block spots count keys least last empty none sums = record { place = refl; waiting = empty; index = none; sums = sums; chain = refl; sequences = refl }

pub those_sums : (total count : ℕ) (more keys : List KeyHash) (first least : Option Bytes) (now last : Option Row) (rows : List Row) → AreThose total count more keys first least now last → AreSums count keys least last rows → AreSums total more first now rows
those_sums total count more keys first least now last rows (t, k, f, n) sums =
    record { number = t ∙ sums.number; hashes = k ∙ sums.hashes; first = f ∙ sums.first; last_is = n ∙ sums.last_is }
