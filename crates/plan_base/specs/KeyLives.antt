-- What is found at a key of a collection of a kind.
use Rattle.std.specs.Prelude.{Option}
use Rattle.kv_base.specs.MetaValues.{MetaValue}
use Rattle.kv_base.specs.declared.kind.Kind.{Kind as Code}
use Rattle.plan_base.specs.declared.key_life.KeyLife.{KeyLife}
use Rattle.plan_base.specs.Seen.{deadline_in}
use Rattle.plan_base.specs.Lives.{life_found}

-- the deadline of the key, and the life of the collection there
abbrev pub key_life : Code → Option MetaValue → KeyLife
key_life kind found = record { deadline = deadline_in found; life = life_found kind found }
