-- The pieces that are written of a reply or a fault make its text.
use Rattle.std.proofs.Common.{◌≡◌, ℕ, ◌+◌, ◌<◌, ◌≤◌, List, [], ◌++◌, length, take, drop, get_or, sym, ap, ◌∙◌, append_assoc}
use Rattle.std.proofs.lemmas.List.{append-nil, take_all, take_more, flat_map_more}
use Rattle.std.specs.List.{flat_map}
use Rattle.kv_outside.specs.WritingLaws.{pieces_at}
use Rattle.std.specs.Prelude.{codes, decimal, ℤ}
use Rattle.kv_base.specs.Number.{int_text}
use Rattle.redis_model.specs.declared.reply.Reply.{Reply}
use Rattle.redis_model.specs.declared.reply.Reply.TheVariants as reply
use Rattle.redis_model.specs.declared.reply.ReplyError.{ReplyError}
use Rattle.redis_model.specs.declared.reply.TypeWord.{TypeWord}
use Rattle.redis_model.specs.Render.{render, line_end, word_text, error_text}
use Rattle.resp_wire.specs.declared.fault.WireFault.{WireFault}
use Rattle.resp_wire.specs.Fault.{fault_line, fault_text}
use Rattle.redis_model.specs.RenderLaws.{render-Word, render-Int, render-Bulk, render-Array, render-Error}

pub word_pieces : (word : TypeWord) (text : List ℕ) → text ≡ word_text word → codes "+" ++ (text ++ (line_end ++ [])) ≡ render (reply.Word word)
word_pieces word text e = ap (λ (t : List ℕ). codes "+" ++ t ++ line_end) e ∙ sym (render-Word word)

pub int_pieces : (n : ℤ) (digits : List ℕ) → digits ≡ int_text n → codes ":" ++ (digits ++ (line_end ++ [])) ≡ render (reply.Int n)
int_pieces n digits e = ap (λ (t : List ℕ). codes ":" ++ t ++ line_end) e ∙ sym (render-Int n)

pub bulk_pieces : (bytes digits : List ℕ) → digits ≡ decimal (length bytes) → codes "$" ++ (digits ++ (line_end ++ (bytes ++ (line_end ++ [])))) ≡ render (reply.Bulk bytes)
bulk_pieces bytes digits e = regrouped ∙ ap (λ (t : List ℕ). codes "$" ++ t ++ line_end ++ bytes ++ line_end) e ∙ sym (render-Bulk bytes)
  where
    regrouped : codes "$" ++ (digits ++ (line_end ++ (bytes ++ (line_end ++ [])))) ≡ codes "$" ++ digits ++ line_end ++ bytes ++ line_end
    regrouped = simp append_assoc

pub error_pieces : (error : ReplyError) (text : List ℕ) → text ≡ error_text error → codes "-" ++ (text ++ (line_end ++ [])) ≡ render (reply.Error error)
error_pieces error text e = ap (λ (t : List ℕ). codes "-" ++ t ++ line_end) e ∙ sym (render-Error error)

pub fault_pieces : (fault : WireFault) (place : ℕ) (text digits : List ℕ) → text ≡ fault_text fault → digits ≡ decimal place
    → codes "-ERR Protocol error: " ++ (text ++ (codes " at " ++ (digits ++ (line_end ++ [])))) ≡ fault_line fault place
fault_pieces fault place text digits e d = regrouped ∙ ap (λ (t : List ℕ). codes "-ERR Protocol error: " ++ t ++ codes " at " ++ digits ++ line_end) e ∙ ap (λ (t : List ℕ). codes "-ERR Protocol error: " ++ fault_text fault ++ codes " at " ++ t ++ line_end) d
  where
    regrouped : codes "-ERR Protocol error: " ++ (text ++ (codes " at " ++ (digits ++ (line_end ++ [])))) ≡ codes "-ERR Protocol error: " ++ text ++ codes " at " ++ digits ++ line_end
    regrouped = simp append_assoc

-- the line in front of the parts of an array
abbrev pub array_line : ℕ → List ℕ
array_line count = codes "*" ++ decimal count ++ line_end

-- an array up to so many of its parts
abbrev pub array_until : List Reply → ℕ → List ℕ
array_until parts i = array_line (length parts) ++ flat_map render (take i parts)

pub array_line_pieces : (count : ℕ) (digits : List ℕ) → digits ≡ decimal count → codes "*" ++ (digits ++ (line_end ++ [])) ≡ array_line count
array_line_pieces count digits e = ap (λ (t : List ℕ). codes "*" ++ t ++ line_end) e

module _ (parts : List Reply) where
  pub array_start : array_line (length parts) ≡ array_until parts 0
  array_start = sym (append-nil (array_line (length parts)))

  pub array_more : (i : ℕ) (part : Reply) → i < length parts → part ≡ get_or parts i part → array_until parts i ++ render part ≡ array_until parts (i + 1)
  array_more i part inside is =
      ap (λ (r : Reply). array_until parts i ++ render r) is
      ∙ flat_map_more render (array_line (length parts)) (take i parts) (get_or parts i part)
      ∙ ap (λ (rs : List Reply). array_line (length parts) ++ flat_map render rs) (sym (take_more parts i part inside))

  pub array_end : (i : ℕ) → length parts ≤ i → array_until parts i ≡ render (reply.Array parts)
  array_end i all = ap (λ (rs : List Reply). array_line (length parts) ++ flat_map render rs) (take_all i parts all) ∙ sym (render-Array parts)

  -- a part and what is behind it
  pub array_behind_part : (i : ℕ) (part : Reply) → i < length parts → part ≡ get_or parts i part → render (reply.Array parts) ≡ array_until parts i ++ (render part ++ flat_map render (drop (i + 1) parts))
  array_behind_part i part inside is =
      render-Array parts
      ∙ ap (λ (t : List ℕ). array_line (length parts) ++ t) (pieces_at render parts i part inside)
      ∙ sym (append_assoc (array_line (length parts)) (flat_map render (take i parts)) (render (get_or parts i part) ++ flat_map render (drop (i + 1) parts)))
      ∙ ap (λ (r : Reply). array_until parts i ++ (render r ++ flat_map render (drop (i + 1) parts))) (sym is)
