-- The configuration of `kvr serve`: a TOML document in UTF-8.
use Rattle.std.specs.Prelude.{ℕ, Bool, false, not, ◌==◌, ◌&&◌, ◌||◌, nat_le, nat_lt, if◌then◌else◌, ℤ, pos, int_le, unsigned_abs, length, codes, Option, Some, None, Result, Ok, Err}
use Rattle.std.specs.Path.{rsplit_once}
use Rattle.std.specs.Str.{bytes_eq, is_utf8}
use Rattle.toml.specs.Data.{Data, Members, no_members, member, as_str, as_integer, get_member}
use Rattle.toml.specs.Parse.{parse_document}
use Rattle.kv_base.specs.Map.{Bytes}
use Rattle.kv_base.specs.Unsigned.{read_u64}
use Rattle.conf_file.specs.declared.conf.Conf.{Conf}
use Rattle.conf_file.specs.declared.fault.ConfKey.{ConfKey}
use Rattle.conf_file.specs.declared.fault.ConfKey.TheVariants as key
use Rattle.conf_file.specs.declared.fault.ConfFlaw.{ConfFlaw}
use Rattle.conf_file.specs.declared.fault.ConfFlaw.TheVariants as flaw

-- ---- what the keys hold

-- a folder's path is not empty
abbrev pub is_folder : Bytes → Bool
is_folder path = not (length path == 0)

-- `:`, whose last one parts a host from a port
abbrev pub colon : ℕ
colon = 58

-- a port, in decimal digits with no zero in front of another
abbrev pub is_port_number : Option ℕ → Bool
is_port_number None = false
is_port_number (Some port) = nat_le port 65535

abbrev pub are_host_port : Option (Bytes × Bytes) → Bool
are_host_port None = false
are_host_port (Some parts) = not (length parts.0 == 0) && is_port_number (read_u64 parts.1)

-- `HOST:PORT`, with a host that is not empty
abbrev pub is_address : Bytes → Bool
is_address text = are_host_port (rsplit_once colon text)

abbrev pub text_or_flaw : ConfKey → Option Bytes → Result Bytes ConfFlaw
text_or_flaw key None = Err (flaw.Off key)
text_or_flaw key (Some text) = Ok text

-- the text at a key, which has to be there
abbrev pub text_in : ConfKey → Option Data → Result Bytes ConfFlaw
text_in key None = Err (flaw.Missing key)
text_in key (Some value) = text_or_flaw key (as_str value)

abbrev pub text_that : (Bytes → Bool) → ConfKey → Result Bytes ConfFlaw → Result Bytes ConfFlaw
text_that is_right key (Err flaw) = Err flaw
text_that is_right key (Ok text) = if is_right text then Ok text else Err (flaw.Off key)

abbrev pub dir_in : Option Data → Result Bytes ConfFlaw
dir_in value = text_that is_folder key.Dir (text_in key.Dir value)

abbrev pub listen_in : Option Data → Result Bytes ConfFlaw
listen_in value = text_that is_address key.Listen (text_in key.Listen value)

abbrev pub worker_count : ℤ → Result ℕ ConfFlaw
worker_count count = if int_le (pos 1) count && int_le count (pos 64) then Ok (unsigned_abs count) else Err (flaw.Off key.Workers)

abbrev pub count_or_flaw : Option ℤ → Result ℕ ConfFlaw
count_or_flaw None = Err (flaw.Off key.Workers)
count_or_flaw (Some count) = worker_count count

-- 1 to 64 workers; 4, where the key is not there
abbrev pub workers_in : Option Data → Result ℕ ConfFlaw
workers_in None = Ok 4
workers_in (Some value) = count_or_flaw (as_integer value)

-- ---- the keys

abbrev pub is_conf_key : Bytes → Bool
is_conf_key name = bytes_eq name (codes "dir") || (bytes_eq name (codes "listen") || bytes_eq name (codes "workers"))

-- the first key, in the order of their bytes, that is none of these
abbrev pub other_key : Members → Option Bytes
other_key no_members = None
other_key (member name value rest) = if is_conf_key name then other_key rest else Some name

-- ---- the document

-- Of several flaws the first is told.
abbrev pub conf_from : Option Bytes → Result Bytes ConfFlaw → Result Bytes ConfFlaw → Result ℕ ConfFlaw → Result Conf ConfFlaw
conf_from (Some name) dir listen workers = Err (flaw.Unknown name)
conf_from None (Err flaw) listen workers = Err flaw
conf_from None (Ok dir) (Err flaw) workers = Err flaw
conf_from None (Ok dir) (Ok listen) (Err flaw) = Err flaw
conf_from None (Ok dir) (Ok listen) (Ok workers) = Ok (record { dir = dir; listen = listen; workers = workers })

abbrev pub conf_in : Members → Result Conf ConfFlaw
conf_in members = conf_from (other_key members)
    (dir_in (get_member (codes "dir") members))
    (listen_in (get_member (codes "listen") members))
    (workers_in (get_member (codes "workers") members))

abbrev pub conf_in_document : Option Members → Result Conf ConfFlaw
conf_in_document None = Err flaw.NoToml
conf_in_document (Some members) = conf_in members

-- the most bytes: 64 KiB
abbrev pub most_bytes : ℕ
most_bytes = 65536

-- The configuration that the bytes are, or the first of their flaws.
abbrev pub configured : Bytes → Result Conf ConfFlaw
configured bytes =
    if nat_lt most_bytes (length bytes) then Err flaw.TooLong
    else conf_in_document (if is_utf8 bytes then parse_document bytes else None)
