-- What a crash leaves of a disk in memory, chosen by a number.
use Rattle.std.specs.Prelude.{ℕ, ◌+◌, ◌*◌, ◌/◌, ◌%◌, ◌^◌, zero, suc, Bool, true, false, ◌||◌, ◌&&◌, List, [], ◌∷◌, ◌++◌, length, take, drop, map}
use Rattle.kv_base.specs.declared.name.FileName.{FileName}
use Rattle.kv_base.specs.Name.{same_name}
use Rattle.kv_fakes.specs.Past.{overwritten, after_change, own_or}
use Rattle.kv_fakes.specs.declared.fate.Fate.{Fate}
use Rattle.kv_fakes.specs.declared.fate.Fate.TheVariants.{Whole, Missing, Torn}
use Rattle.kv_fakes.specs.declared.past.Change.{Change}
use Rattle.kv_fakes.specs.declared.past.ChangeKind.{ChangeKind}
use Rattle.kv_fakes.specs.declared.past.ChangeKind.TheVariants.{Written, Cut, Synced, Gone, Placed}

-- the number drawn after this one, by Knuth's linear congruential generator for 64 bits
unfoldable pub draw : ℕ → ℕ
draw number = (number * 6364136223846793005 % 2 ^ 64 + 1442695040888963407) % 2 ^ 64

-- A change that is not durable is there whole, or not at all, or torn, by a number below 4.
abbrev pub fate_by : ℕ → Fate
fate_by zero = Whole
fate_by (suc zero) = Missing
fate_by (suc (suc n)) = Torn

-- by the two highest bits
unfoldable pub fate : ℕ → Fate
fate number = fate_by (number / 2 ^ 62)

-- how many bytes of a torn write reached the disk, and how many of these are as they were written
unfoldable pub reached : ℕ → ℕ → ℕ
reached number n = number / 2 ^ 32 % (n + 1)

unfoldable pub sound : ℕ → ℕ → ℕ
sound number n = number / 2 ^ 16 % (n + 1)

-- another byte than this one
unfoldable pub spoilt : ℕ → ℕ → ℕ
spoilt number byte = (byte + 1 + number / 2 ^ 24 % 255) % 256

-- what is there in place of the bytes of a torn write
unfoldable pub torn_bytes : ℕ → List ℕ → List ℕ
torn_bytes number bytes =
    let some = take (reached number (length bytes)) bytes in
    let front = sound number (length some) in
    take front some ++ map (spoilt number) (drop front some)

abbrev pub struck_write : Fate → ℕ → ℕ → List ℕ → List ℕ → List ℕ
struck_write Whole number at bytes old = overwritten at bytes old
struck_write Missing number at bytes old = old
struck_write Torn number at bytes old = overwritten at (torn_bytes number bytes) old

-- a cut or a purge is carried out or not
abbrev pub struck_or : {X : Type 0} → Fate → X → X → X
struck_or Whole new old = new
struck_or Missing new old = old
struck_or Torn new old = old

-- what a crash leaves of a change that was not durable. One whose call failed may have reached the disk all the same.
abbrev pub struck : ℕ → ChangeKind → List ℕ → List ℕ
struck number (Written at bytes done) old = struck_write (fate number) number at bytes old
struck number (Cut len done) old = struck_or (fate number) (take len old) old
struck number Synced old = old
struck number Gone old = struck_or (fate number) [] old
struck number (Placed bytes) old = bytes

-- a change that makes its file durable
abbrev pub settles : ChangeKind → Bool
settles (Written at bytes done) = false
settles (Cut len done) = false
settles Synced = true
settles Gone = false
settles (Placed bytes) = true

-- whether the file became durable in these changes
abbrev pub is_settled : List Change → FileName → Bool
is_settled [] name = false
is_settled (change ∷ changes) name = (same_name change.name name && settles change.kind) || is_settled changes name

-- a change that was made durable is there, and of another what the number leaves of it
abbrev pub left_of : Bool → ℕ → ChangeKind → List ℕ → List ℕ
left_of true number kind old = after_change kind old
left_of false number kind old = struck number kind old

-- What a crash leaves of a file, which had these bytes before the changes. A number is drawn for each change.
abbrev pub left_after : List Change → ℕ → FileName → List ℕ → List ℕ
left_after [] number name old = old
left_after (change ∷ changes) number name old =
    let next = draw number in
    left_after changes next name (own_or (same_name change.name name) (left_of (is_settled changes change.name) next change.kind old) old)
