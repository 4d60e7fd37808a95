-- What metadata says.
use Rattle.std.specs.Prelude.{ℕ, ◌-◌, nat_lt, nat_le, Bool, ◌&&◌, Option, Some, None}
use Rattle.kv_base.specs.MetaValues.{MetaValue, StringValue, LifeValue, ListValue}

-- the number of a collection's elements
abbrev pub size_of : MetaValue → Option ℕ
size_of (StringValue expire payload) = None
size_of (LifeValue kind expire version size) = Some size
size_of (ListValue expire version head tail) = Some (tail - head)

-- there is a deadline, and it is at most the moment
abbrev pub is_expired : ℕ → ℕ → Bool
is_expired expire moment = nat_lt 0 expire && nat_le expire moment

-- the same but for the deadline
abbrev pub with_expire : ℕ → MetaValue → MetaValue
with_expire expire (StringValue old payload) = StringValue expire payload
with_expire expire (LifeValue kind old version size) = LifeValue kind expire version size
with_expire expire (ListValue old version head tail) = ListValue expire version head tail
