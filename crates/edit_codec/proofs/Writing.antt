-- Values that are written one after another.
use Rattle.std.proofs.Common.{◌≡◌, Result, Ok, Err, IfOk, OnOk, ℕ, ◌+◌, ◌<◌, ◌≤◌, true, List, [], ◌∷◌, ◌++◌, length, take, drop, get_or, refl, sym, ap, subst, ◌∙◌, append_assoc}
use Rattle.std.specs.List.{flat_map, list_all}
use Rattle.std.proofs.lemmas.List.{take_all, take_more, drop_all, drop_more}
use Rattle.std.specs.Prelude.{◌&&◌, nat_le}
use Rattle.std.specs.Ordering.{is_le}
use Rattle.kv_base.specs.Map.{Bytes, byte_cmp}
use Rattle.kv_base.specs.RawKeys.{is_raw_text}
use Rattle.kv_base.specs.RowLaws.{raw_is_short}
use Rattle.kv_base.specs.InversionLaws.{both_first, both_second}
use Rattle.level_set.specs.declared.home.Home.{Home}
use Rattle.level_set.specs.Tables.{is_table, are_tables, in_order}
use Rattle.level_set.specs.declared.edit.Edit.{Edit}
use Rattle.kv_base.specs.declared.name.TableId.{TableId}
use Rattle.kv_base.specs.Fields.{u64}
use Rattle.edit_codec.specs.declared.state.State.{State}
use Rattle.edit_codec.specs.Codecs.{list_text}
use Rattle.edit_codec.specs.Records.{id_text, home_text, numbers_text, edit_text, state_head_text}
use Rattle.edit_codec.specs.Records.{FitList}
use Rattle.edit_codec.specs.Codecs.{EachFits}

append_none : (xs : Bytes) → xs ++ [] ≡ xs
append_none [] = refl
append_none (x ∷ xs) = ap (λ (l : Bytes). x ∷ l) (append_none xs)

module _ {X : Type 0} (spell : X → Bytes) (fits : X → Type 0) (xs : List X) where
  pub goes_on : (i : ℕ) (x : X) (body more whole : Bytes) → i < length xs → x ≡ get_or xs i x → more ≡ body ++ spell x → body ++ flat_map spell (drop i xs) ≡ whole → more ++ flat_map spell (drop (i + 1) xs) ≡ whole
  goes_on i x body more whole low is written was =
      let dropped : drop i xs ≡ x ∷ drop (i + 1) xs = drop_more xs i x low ∙ ap (λ (y : X). y ∷ drop (i + 1) xs) (sym is) in
      ap (λ (l : Bytes). l ++ flat_map spell (drop (i + 1) xs)) written
      ∙ append_assoc body (spell x) (flat_map spell (drop (i + 1) xs))
      ∙ ap (λ (l : List X). body ++ flat_map spell l) (sym dropped) ∙ was

  pub ends : (i : ℕ) (body whole : Bytes) → length xs ≤ i → body ++ flat_map spell (drop i xs) ≡ whole → body ≡ whole
  ends i body whole long was = sym (ap (λ (l : List X). body ++ flat_map spell l) (drop_all i xs long) ∙ append_none body) ∙ was

  each_push : (ys : List X) (x : X) → EachFits fits ys → fits x → EachFits fits (ys ++ x ∷ [])
  each_push [] x each here = (here, tt)
  each_push (y ∷ ys) x each here = (each.0, each_push ys x each.1 here)

  pub fit_more : (i : ℕ) (x : X) → i < length xs → x ≡ get_or xs i x → EachFits fits (take i xs) → fits x → EachFits fits (take (i + 1) xs)
  fit_more i x low is each here =
      let taken : take (i + 1) xs ≡ take i xs ++ x ∷ [] = take_more xs i x low ∙ ap (λ (y : X). take i xs ++ y ∷ []) (sym is) in
      subst (EachFits fits) (sym taken) (each_push (take i xs) x each here)

  pub all_fit : (i : ℕ) → length xs ≤ i → EachFits fits (take i xs) → EachFits fits xs
  all_fit i long each = subst (EachFits fits) (take_all i xs long) each

  pub fit_none : EachFits fits (take 0 xs)
  fit_none = tt

-- ---- a table's raw keys are short

pub short_least : (home : Home) → is_table home ≡ true → length home.desc.least ≤ 131092
short_least home is =
    let raw = both_second (nat_le home.level 4) (is_raw_text home.desc.least) (both_first (nat_le home.level 4 && is_raw_text home.desc.least) (is_raw_text home.desc.greatest) (front home is)) in
    raw_is_short home.desc.least raw
  where
    front : (home : Home) → is_table home ≡ true → (nat_le home.level 4 && is_raw_text home.desc.least && is_raw_text home.desc.greatest) ≡ true
    front home is = both_first (nat_le home.level 4 && is_raw_text home.desc.least && is_raw_text home.desc.greatest) (is_le (byte_cmp home.desc.least home.desc.greatest)) is

pub short_greatest : (home : Home) → is_table home ≡ true → length home.desc.greatest ≤ 131092
short_greatest home is =
    let front = both_first (nat_le home.level 4 && is_raw_text home.desc.least && is_raw_text home.desc.greatest) (is_le (byte_cmp home.desc.least home.desc.greatest)) is in
    raw_is_short home.desc.greatest (both_second (nat_le home.level 4 && is_raw_text home.desc.least) (is_raw_text home.desc.greatest) front)

pub each_is_table : (tables : List Home) → are_tables tables ≡ true → list_all is_table tables ≡ true
unfolding are_tables
each_is_table tables are = both_first (list_all is_table tables) (in_order tables) are

-- ---- whole records

pub edit_written : (e : Edit) {none one two three four : Bytes} {ids : List TableId} {homes : List Home} → none ≡ [] → one ≡ none ++ 1 ∷ [] → two ≡ one ++ numbers_text e.log e.last e.floor e.next_run
    → three ≡ two ++ list_text id_text ids → four ≡ three ++ list_text home_text homes → ids ≡ e.removed → homes ≡ e.added → four ≡ edit_text e
unfolding edit_text
edit_written e a b c d f removed added =
    let numbers = numbers_text e.log e.last e.floor e.next_run in
    let mark = b ∙ ap (λ w. w ++ 1 ∷ []) a in
    let head = c ∙ ap (λ w. w ++ numbers) mark in
    let names = d ∙ (λ i. head i ++ list_text id_text (removed i)) in
    f ∙ (λ i. names i ++ list_text home_text (added i))
    ∙ append_assoc (1 ∷ numbers) (list_text id_text e.removed) (list_text home_text e.added)

pub head_written : (s : State) {none one two three four : Bytes} {homes : List Home} → none ≡ [] → one ≡ none ++ 0 ∷ [] → two ≡ one ++ u64 s.epoch → three ≡ two ++ numbers_text s.log s.last s.floor s.next_run
    → four ≡ three ++ list_text home_text homes → homes ≡ s.levels → four ≡ state_head_text s
unfolding state_head_text
head_written s a b c d f levels =
    let numbers = numbers_text s.log s.last s.floor s.next_run in
    let mark = b ∙ ap (λ w. w ++ 0 ∷ []) a in
    let epoch = c ∙ ap (λ w. w ++ u64 s.epoch) mark in
    let head = d ∙ ap (λ w. w ++ numbers) epoch in
    f ∙ (λ i. head i ++ list_text home_text (levels i))
    ∙ append_assoc (0 ∷ u64 s.epoch) numbers (list_text home_text s.levels)

-- ---- what is known of a body is known of what equals it

pub if_ok_leads : {T E : Type 0} (P Q : T → Type 0) (r : Result T E) → IfOk r P → ((x : T) → P x → Q x) → IfOk r Q
if_ok_leads P Q (Ok x) is leads = leads x is
if_ok_leads P Q (Err e) is leads = tt

pub on_ok : {T E P : Type 0} (r : Result T E) → P → OnOk r P
on_ok (Ok x) p = p
on_ok (Err e) p = tt

pub list_fits : {X : Type 0} (fits : X → Type 0) (xs ys : List X) → xs ≡ ys → FitList fits xs → FitList fits ys
list_fits fits xs ys same is = subst (FitList fits) same is
