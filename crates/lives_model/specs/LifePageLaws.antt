-- The rows of a life, page by page, are those of its value, in order.
use Rattle.std.proofs.Common.{◌≡◌, ℕ, take, sym, ap, ◌∙◌, true}
use Rattle.std.specs.Prelude.{IsTrue}
use Rattle.kv_base.specs.Map.{Bytes}
use Rattle.kv_base.specs.RawKeys.{life_prefix}
use Rattle.kv_base.specs.MetaValues.{is_meta_within}
use Rattle.redis_model.specs.Value.{Value, Str, Hash, ListOf, SetOf, ZSet, Entry}
use Rattle.lives_model.specs.Rows.{Rows, Side, space_of, row_key}
use Rattle.lives_model.specs.Means.{LifeAt, StandsForEntry, meta_for, has_life}
use Rattle.lives_model.specs.MeansOneLaws.{tail_fits}
use Rattle.lives_model.specs.StepLaws.{live_fits}
use Rattle.lives_model.specs.Page.{page}
use Rattle.lives_model.specs.Passing.{passing, is_asked}
use Rattle.lives_model.specs.PrefixLaws.{passing_under, passing_all}
use Rattle.lives_model.specs.PageLaws.{page_is}
use Rattle.lives_model.specs.LifeRows.{value_rows, rows_from_subkey, in_life, HasIndices, HasRowsOf}
use Rattle.lives_model.specs.LifeRowLaws.{value_rows_sorted, value_rows_found}

-- a collection that rows stand for has its rows
pub stands_rows : (c : Rows) (t : ℕ) (k : Bytes) (e : Entry) (s : StandsForEntry c t k e) → IsTrue (has_life e.value) → HasRowsOf c k s.life e.value
stands_rows c t k e s h = record { scores = s.scores; indices = by_value e.value s.life s.expire (live_fits c t k _ s.meta); rows = s.rows h }
  where
    by_value : (v : Value) (life : LifeAt) (x : ℕ) → is_meta_within (meta_for v life x) ≡ true → HasIndices v life.head
    by_value (ListOf l) life x fits = tail_fits l life x fits
    by_value (Str v) life x fits = tt
    by_value (Hash h) life x fits = tt
    by_value (SetOf s) life x fits = tt
    by_value (ZSet z) life x fits = tt

module _ (c : Rows) (k : Bytes) (life : LifeAt) (v : Value) (has : HasRowsOf c k life v) (side : Side) where
  -- from a subkey on stand the value's rows from there on
  pub life_from : (x : Bytes) → passing (is_asked (row_key side k life.version x) (life_prefix (space_of side) k life.version)) c ≡ in_life side k life.version (rows_from_subkey x (value_rows v life.head side))
  unfolding row_key
  life_from x =
      passing_under (life_prefix (space_of side) k life.version) c (value_rows v life.head side) x (value_rows_sorted v life.head side has.scores has.indices)
      (λ q. has.rows side q ∙ sym (value_rows_found v life.head side q has.scores has.indices))

  -- and from the prefix on all of them
  pub life_whole : passing (is_asked (life_prefix (space_of side) k life.version) (life_prefix (space_of side) k life.version)) c ≡ in_life side k life.version (value_rows v life.head side)
  unfolding row_key
  life_whole =
      passing_all (life_prefix (space_of side) k life.version) c (value_rows v life.head side) (value_rows_sorted v life.head side has.scores has.indices)
      (λ q. has.rows side q ∙ sym (value_rows_found v life.head side q has.scores has.indices))

  -- so a page has the first of them
  pub page_from : (x : Bytes) (limit : ℕ) → page c (row_key side k life.version x) (life_prefix (space_of side) k life.version) limit ≡ take limit (in_life side k life.version (rows_from_subkey x (value_rows v life.head side)))
  page_from x limit = page_is c (row_key side k life.version x) (life_prefix (space_of side) k life.version) limit ∙ ap (take limit) (life_from x)

  pub page_whole : (limit : ℕ) → page c (life_prefix (space_of side) k life.version) (life_prefix (space_of side) k life.version) limit ≡ take limit (in_life side k life.version (value_rows v life.head side))
  page_whole limit = page_is c (life_prefix (space_of side) k life.version) (life_prefix (space_of side) k life.version) limit ∙ ap (take limit) life_whole
