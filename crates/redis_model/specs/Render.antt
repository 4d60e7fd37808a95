-- The bytes of a reply, after RESP2, the Redis serialization protocol. `specs/RenderLaws.antt` has the equations.
use Rattle.std.specs.Prelude.{List, [], ◌∷◌, ◌++◌, length, flat_map, decimal, codes}
use Rattle.kv_base.specs.Map.{Bytes}
use Rattle.kv_base.specs.Number.{int_text}
use Rattle.redis_model.specs.declared.reply.Reply.{Reply, fold-Reply, Row_of-Reply, end_of-Reply, more_of-Reply}
use Rattle.redis_model.specs.declared.reply.Reply.TheOpen as layer
use Rattle.redis_model.specs.declared.reply.Reply as whole
use Rattle.redis_model.specs.declared.reply.TypeWord.{TypeWord}
use Rattle.redis_model.specs.declared.reply.TypeWord.TheVariants as word
use Rattle.redis_model.specs.declared.reply.ReplyError.{ReplyError}
use Rattle.redis_model.specs.declared.reply.ReplyError.TheVariants as error

-- CR and LF
abbrev pub line_end : Bytes
line_end = 13 ∷ 10 ∷ []

-- Redis command reference, TYPE
abbrev pub word_text : TypeWord → Bytes
word_text word.None = codes "none"
word_text word.Str = codes "string"
word_text word.Hash = codes "hash"
word_text word.List = codes "list"
word_text word.Set = codes "set"
word_text word.ZSet = codes "zset"

-- the texts up to IndexRange are Redis's, and those behind it this server's own
abbrev pub error_text : ReplyError → Bytes
error_text error.WrongType = codes "WRONGTYPE Operation against a key holding the wrong kind of value"
error_text error.NotInt = codes "ERR value is not an integer or out of range"
error_text error.HashNotInt = codes "ERR hash value is not an integer"
error_text error.Overflow = codes "ERR increment or decrement would overflow"
error_text error.NoSuchKey = codes "ERR no such key"
error_text error.IndexRange = codes "ERR index out of range"
error_text error.ScoreRange = codes "ERR score is out of range"
error_text error.TooLarge = codes "ERR value too large"
error_text error.Pinned = codes "ERR connection is pinned"
error_text error.AlreadyPinned = codes "ERR already pinned"
error_text error.NotPinned = codes "ERR not pinned"

-- a reply whose parts are rendered already
abbrev pub rendered : layer.Reply-F Bytes → Bytes
rendered layer.Ok = codes "+OK" ++ line_end
rendered layer.Pong = codes "+PONG" ++ line_end
rendered (layer.Word w) = codes "+" ++ word_text w ++ line_end
rendered (layer.Int n) = codes ":" ++ int_text n ++ line_end
rendered (layer.Bulk v) = codes "$" ++ decimal (length v) ++ line_end ++ v ++ line_end
rendered layer.Null = codes "$-1" ++ line_end
rendered layer.NullArray = codes "*-1" ++ line_end
rendered (layer.Array parts) = codes "*" ++ decimal (length parts) ++ line_end ++ flat_map (λ p. p) parts
rendered (layer.Error e) = codes "-" ++ error_text e ++ line_end

-- from the parts of an array up
unfoldable pub render : Reply → Bytes
render = fold-Reply Bytes rendered

-- The same by cases on the data, which computes. Both readings give the same bytes.
abbrev mutual
  pub spelled : Reply → Bytes
  spelled whole.Ok = rendered layer.Ok
  spelled whole.Pong = rendered layer.Pong
  spelled (whole.Word w) = rendered (layer.Word w)
  spelled (whole.Int n) = rendered (layer.Int n)
  spelled (whole.Bulk v) = rendered (layer.Bulk v)
  spelled whole.Null = rendered layer.Null
  spelled whole.NullArray = rendered layer.NullArray
  spelled (whole.Array' shape parts) = rendered (layer.Array (spelled_row parts))
  spelled (whole.Error e) = rendered (layer.Error e)

  pub spelled_row : {n : _} → Row_of-Reply n → List Bytes
  spelled_row end_of-Reply = []
  spelled_row (more_of-Reply r rest) = spelled r ∷ spelled_row rest
