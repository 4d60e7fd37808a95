-- When a run agrees with what is wanted of it.
use Rattle.std.specs.Prelude.{◌≡◌, ◌-◌, ◌++◌, List, [], length, take, All, Contains}
use Rattle.kv_fakes.specs.declared.past.Change.{Change}
use Rattle.kv_fakes.specs.Past.{read_after}
use Rattle.kv_transcripts.specs.declared.run.Content.{Content}
use Rattle.kv_transcripts.specs.declared.run.Wanted.{Wanted}
use Rattle.kv_transcripts.specs.declared.play.Ending.{Ending}

-- the status and the output are among those that are wanted
abbrev pub Ends : Wanted → Ending → Type 0
Ends wanted ending = Contains wanted.statuses ending.status × Contains wanted.outputs ending.sink.bytes

-- after these changes the file holds this content, and each file its own
abbrev pub HasContent : List Change → Content → Type 0
HasContent changes content = read_after changes content.name [] ≡ content.bytes.items

abbrev pub Hold : List Change → List Content → Type 0
Hold changes contents = All (HasContent changes) contents

-- a run with this ending and these changes of the files came to what is wanted
abbrev pub AsWanted : Wanted → List Content → Ending → List Change → Type 0
AsWanted wanted contents ending changes = Ends wanted ending × Hold changes contents

-- the content of that file with these records in the place of its last byte
abbrev pub IsWith : List Change → Content → Content → Type 0
IsWith changes added content =
    let before = read_after changes added.name [] in
    (content.name ≡ added.name) × (content.bytes.items ≡ take (length before - 1) before ++ added.bytes.items)
