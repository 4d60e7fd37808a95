-- What an append, a mending, a making and a resuming keep of a log's records.
use Rattle.std.proofs.Common.{◌≡◌, inl, ℕ, ◌+◌, ◌≤◌, ◌<◌, ◌^◌, min, Bool, true, false, MatchBool, List, [], ◌∷◌, ◌++◌, length, Option, Some, None, IfSome, refl, sym, subst, arith}
use Rattle.kv_base.specs.declared.name.FileName.{FileName}
use Rattle.kv_outside.specs.Disk.{Disk, NothingNew, Touches, Agrees, CrashLeaves, IsDurable}
use Rattle.kv_outside.specs.Files.{Goes, HasWritten, Torn}
use Rattle.kv_outside.specs.ToldLaws.{goes_keeps, held_long, told_given, told_leads}
use Rattle.kv_outside.specs.RunLaws.{begin_run, run_nothing, run_then, run_weaken, at_end, more_nothing, agrees_still}
use Rattle.record_body.specs.Framed.{framed}
use Rattle.record_body.specs.FramedLaws.{length-framed}
use Rattle.gated_log.specs.Gated.{records, EndsAt, IsShut, IsTried, HasRecordsOrOneMore, HasShutGate, HasNoShutGate}
use Rattle.gated_log.specs.RecordLaws.{shut_here, shut_records, tried_records, small_records}
use Rattle.gated_log.specs.States.{LogState, Tells, TellsTried, TellsLeft, Shows, Rests, Wavers, IsLeft}
use Rattle.gated_log.specs.Steps.{TriesAt, Stores}
use Rattle.gated_log.proofs.Calls.{run_into, durable_has, shows_named, run_named, told_both, told_written, tries_tell, tries_run, tries_shows, stores_tell, stores_shows}
use Rattle.gated_log.proofs.Bytes.{Written, torn_shut, written_framed, torn_gate, opened, end_within, closed_here, gate_written, torn_end, made_shut, small_write}

-- ---- an append

-- the gate's place, and the place behind it, are not beyond the end
pub behind_gate : (end : ℕ) (held : Option (List ℕ)) → IfSome held (λ d. end < length d) → IfSome held (λ d. end + 1 ≤ length d)
behind_gate end held within = told_leads (λ (d : List ℕ). end < length d) (λ (d : List ℕ). end + 1 ≤ length d) (λ d lt. omega (arith, lt)) held within

pub at_gate : (end : ℕ) (held : Option (List ℕ)) → IfSome held (λ d. end < length d) → IfSome held (λ d. end ≤ length d)
at_gate end held within = told_leads (λ (d : List ℕ). end < length d) (λ (d : List ℕ). end ≤ length d) (λ d lt. omega (arith, lt)) held within

-- nor is the gate's place when something was written behind it
pub still_at_gate : (end : ℕ) (bytes : List ℕ) (held now : Option (List ℕ)) → IfSome held (λ d. end < length d) → Goes (HasWritten (end + 1) bytes) held now → IfSome now (λ c. end ≤ length c)
still_at_gate end bytes held now within written =
    told_leads (λ (c : List ℕ). end + 1 + length bytes ≤ length c) (λ (c : List ℕ). end ≤ length c) (λ c le. omega (arith, le)) now (held_long (end + 1) bytes held now written (behind_gate end held within))

-- the body and what frames it, behind the gate
module _ (inside log : LogState) (is : inside ≡ log) (old new : Disk) (now : Option (List ℕ)) (bodies : List (List ℕ)) (bytes : List ℕ)
    (tries : TriesAt (inside.end + 1) bytes inside.name old new inside.held now) where
  keeps : (d c : List ℕ) → IsShut inside.end bodies d → Torn (inside.end + 1) (length bytes) d c → IsShut inside.end bodies c
  keeps d c shut torn = torn_shut inside.end (inside.end + 1) (length bytes) bodies d c (omega arith) shut torn

  here : Rests old log bodies → Rests old inside bodies
  here rests = subst (λ (s : LogState). Rests old s bodies) (sym is) rests

  tells_here : Tells log bodies → Tells inside bodies
  tells_here tells = subst (λ (s : LogState). Tells s bodies) (sym is) tells

  pub staged_tells : Tells log bodies → IfSome now (IsShut inside.end bodies)
  staged_tells tells = tries_tell (inside.end + 1) bytes inside.name old new inside.held now (IsShut inside.end bodies) tries keeps (tells_here tells)

  pub staged_rests : Rests old log bodies → (name : FileName) → name ≡ inside.name → Shows new name now (IsShut inside.end bodies)
  staged_rests rests name same = shows_named new inside.name name now (IsShut inside.end bodies) same
      (tries_shows (inside.end + 1) bytes inside.name old new inside.held now (IsShut inside.end bodies) tries keeps (here rests))

  pub staged_run : Rests old log bodies → Touches inside.name old new (λ c. records c ≡ bodies)
  staged_run rests = run_weaken inside.name old new (IsShut inside.end bodies) (λ c. records c ≡ bodies)
      (tries_run (inside.end + 1) bytes inside.name old new inside.held now (IsShut inside.end bodies) tries keeps (here rests))
      (λ c shut. shut_records inside.end bodies c shut)

  pub staged_before : Rests old log bodies → Touches log.name old new (λ c. records c ≡ bodies)
  staged_before rests = subst (λ (s : LogState). Touches s.name old new (λ c. records c ≡ bodies)) is (staged_run rests)

  pub staged_either : Rests old log bodies → (body : List ℕ) → Touches log.name old new (HasRecordsOrOneMore bodies body)
  staged_either rests body = run_weaken log.name old new (λ c. records c ≡ bodies) (HasRecordsOrOneMore bodies body) (staged_before rests) (λ c before. inl before)

  -- it is whole
  module _ (body : List ℕ) (frame : bytes ≡ framed body) (fits : length body < 2 ^ 32) (within : IfSome inside.held (λ d. inside.end < length d))
      (stores : Stores (inside.end + 1) bytes inside.name old new inside.held now) where
    leads : (c : List ℕ) → IsShut inside.end bodies c → Written (inside.end + 1) bytes c → IsTried inside.end bodies body c
    leads c shut written = written_framed inside.end bodies body bytes c frame fits shut written

    pub whole_tells : Tells log bodies → IfSome now (IsTried inside.end bodies body)
    whole_tells tells =
        stores_tell (inside.end + 1) bytes inside.name old new inside.held now (IsShut inside.end bodies) tries keeps (IsTried inside.end bodies body) (behind_gate inside.end inside.held within) stores leads (tells_here tells)

    pub whole_shows : (name : FileName) → name ≡ inside.name → Rests old log bodies → Shows new name now (IsTried inside.end bodies body)
    whole_shows name same rests = shows_named new inside.name name now (IsTried inside.end bodies body) same
        (stores_shows (inside.end + 1) bytes inside.name old new inside.held now (IsShut inside.end bodies) tries keeps (IsTried inside.end bodies body) (behind_gate inside.end inside.held within) stores leads (here rests))

-- the gate
module _ (end gate : ℕ) (name : FileName) (old new : Disk) (held now : Option (List ℕ)) (bodies : List (List ℕ)) (body : List ℕ) (tries : TriesAt end (gate ∷ []) name old new held now) where
  stays_tried : (d c : List ℕ) → IsTried end bodies body d → Torn end 1 d c → IsTried end bodies body c
  stays_tried d c tried torn = torn_gate end bodies body d c tried torn

  pub gate_tells : IfSome held (IsTried end bodies body) → IfSome now (IsTried end bodies body)
  gate_tells tried = tries_tell end (gate ∷ []) name old new held now (IsTried end bodies body) tries stays_tried tried

  pub gate_wavers : Shows old name held (IsTried end bodies body) → (after : FileName) → after ≡ name → Shows new after now (IsTried end bodies body)
  gate_wavers wavers after same = shows_named new name after now (IsTried end bodies body) same
      (tries_shows end (gate ∷ []) name old new held now (IsTried end bodies body) tries stays_tried wavers)

  pub gate_run : Shows old name held (IsTried end bodies body) → Touches name old new (HasRecordsOrOneMore bodies body)
  gate_run wavers = run_weaken name old new (IsTried end bodies body) (HasRecordsOrOneMore bodies body)
      (tries_run end (gate ∷ []) name old new held now (IsTried end bodies body) tries stays_tried wavers)
      (λ c tried. tried_records end bodies body c tried)

  -- it is written
  module _ (Q : List ℕ → Type 0) (within : IfSome held (λ d. end ≤ length d)) (stores : Stores end (gate ∷ []) name old new held now)
      (leads : (c : List ℕ) → IsTried end bodies body c → Written end (gate ∷ []) c → Q c) where
    pub gate_told : IfSome held (IsTried end bodies body) → IfSome now Q
    gate_told tried = stores_tell end (gate ∷ []) name old new held now (IsTried end bodies body) tries stays_tried Q within stores leads tried

    pub gate_shown : (after : FileName) → after ≡ name → Shows old name held (IsTried end bodies body) → Shows new after now Q
    gate_shown after same wavers =
        shows_named new name after now Q same (stores_shows end (gate ∷ []) name old new held now (IsTried end bodies body) tries stays_tried Q within stores leads wavers)

-- the record that stands behind the gate when it is open
pub opened_at : (end place : ℕ) (bodies : List (List ℕ)) (body : List ℕ) → place ≡ end + length (framed body) → (c : List ℕ) → IsTried end bodies body c → Written end (1 ∷ []) c → IsShut place (bodies ++ body ∷ []) c
opened_at end place bodies body is c tried written =
    let moved : end + 5 + length body ≡ place = omega (arith, is, length-framed body) in
    subst (λ (k : ℕ). IsShut k (bodies ++ body ∷ []) c) moved (opened end bodies body c tried written)

-- the two parts of an append
pub append_run : (inside log : LogState) (name : FileName) (old mid new : Disk) (bodies : List (List ℕ)) (body : List ℕ) → inside ≡ log → name ≡ inside.name
    → Touches inside.name old mid (λ c. records c ≡ bodies) → Touches name mid new (HasRecordsOrOneMore bodies body) → Touches log.name old new (HasRecordsOrOneMore bodies body)
append_run inside log name old mid new bodies body is same first second =
    subst (λ (s : LogState). Touches s.name old new (HasRecordsOrOneMore bodies body)) is
    (run_then inside.name old mid new (HasRecordsOrOneMore bodies body)
    (run_weaken inside.name old mid (λ c. records c ≡ bodies) (HasRecordsOrOneMore bodies body) first (λ c before. inl before))
    (run_named inside.name name mid new (HasRecordsOrOneMore bodies body) same second))

-- ---- a mending

pub left_rests : (unsure : Bool) (disk : Disk) (log : LogState) (bodies : List (List ℕ)) (body : List ℕ) → unsure ≡ false → Rests disk log bodies → IsLeft unsure disk log bodies body
left_rests unsure disk log bodies body sure rests = subst (λ (b : Bool). IsLeft b disk log bodies body) (sym sure) rests

pub left_tells : (unsure : Bool) (log : LogState) (bodies : List (List ℕ)) (body : List ℕ) → unsure ≡ false → Tells log bodies → TellsLeft unsure log bodies body
left_tells unsure log bodies body sure tells = subst (λ (b : Bool). TellsLeft b log bodies body) (sym sure) tells

pub left_wavers : (inside log : LogState) (disk : Disk) (bodies : List (List ℕ)) (body : List ℕ) → inside ≡ log → inside.unsure ≡ true → IsLeft log.unsure disk log bodies body → Wavers disk inside bodies body
left_wavers inside log disk bodies body is unsure left =
    let here = subst (λ (s : LogState). IsLeft s.unsure disk s bodies body) (sym is) left in
    subst (λ (b : Bool). IsLeft b disk inside bodies body) unsure here

pub left_tried : (inside log : LogState) (bodies : List (List ℕ)) (body : List ℕ) → inside ≡ log → inside.unsure ≡ true → TellsLeft log.unsure log bodies body → TellsTried inside bodies body
left_tried inside log bodies body is unsure left =
    let here = subst (λ (s : LogState). TellsLeft s.unsure s bodies body) (sym is) left in
    subst (λ (b : Bool). TellsLeft b inside bodies body) unsure here

pub mend_run : (inside log : LogState) (old new : Disk) (now : Option (List ℕ)) (bodies : List (List ℕ)) (body : List ℕ) → inside ≡ log → TriesAt inside.end (0 ∷ []) inside.name old new inside.held now
    → Wavers old inside bodies body → Touches log.name old new (HasRecordsOrOneMore bodies body)
mend_run inside log old new now bodies body is tries wavers =
    subst (λ (s : LogState). Touches s.name old new (HasRecordsOrOneMore bodies body)) is (gate_run inside.end 0 inside.name old new inside.held now bodies body tries wavers)

pub left_idle : (unsure : Bool) (log : LogState) (disk : Disk) (bodies : List (List ℕ)) (body : List ℕ) → IsLeft unsure disk log bodies body → Touches log.name disk disk (HasRecordsOrOneMore bodies body)
left_idle true log disk bodies body left = begin_run log.name disk (HasRecordsOrOneMore bodies body) (record { each = λ c image. tried_records log.end bodies body c (left.images.each c image) })
left_idle false log disk bodies body left = begin_run log.name disk (HasRecordsOrOneMore bodies body) (record { each = λ c image. inl (shut_records log.end bodies c (left.images.each c image)) })

-- ---- a making

abbrev pub Small : List ℕ → Type 0
Small c = length c ≤ 1

pub small_run : (name : FileName) (old new : Disk) → Touches name old new Small → Touches name old new (λ c. (length c ≤ 1) × (records c ≡ []))
small_run name old new run = run_weaken name old new Small (λ c. (length c ≤ 1) × (records c ≡ [])) run (λ c small. (small, small_records c small))

pub make_run : (name after : FileName) (old mid new : Disk) (held now : Option (List ℕ)) → after ≡ name → TriesAt 0 (0 ∷ []) after mid new held now → Touches name old mid Small
    → Touches name old new (λ c. (length c ≤ 1) × (records c ≡ []))
make_run name after old mid new held now same tries run =
    let here : CrashLeaves mid after Small = subst (λ (n : FileName). CrashLeaves mid n Small) (sym same) (at_end name old mid Small run) in
    small_run name old new (run_then name old mid new Small run
    (run_named name after mid new Small same (run_into after (Torn 0 1) mid new Small Small tries.disk here (λ c small. small) (λ d c small torn. small_write d c small torn))))

pub make_tells : (held now : Option (List ℕ)) → IfSome held (λ c. c ≡ []) → Goes (HasWritten 0 (0 ∷ [])) held now → IfSome now (IsShut 0 [])
make_tells held now empty written = goes_keeps (HasWritten 0 (0 ∷ [])) (λ c. c ≡ []) (IsShut 0 []) (λ d c is holds. made_shut d c is holds) held now written empty

pub make_shows : (name after last : FileName) (mid new : Disk) (held now : Option (List ℕ)) → after ≡ name → last ≡ after → Agrees mid name held → IfSome held (λ c. c ≡ [])
    → TriesAt 0 (0 ∷ []) after mid new held now → Stores 0 (0 ∷ []) after mid new held now → Shows new last now (IsShut 0 [])
make_shows name after last mid new held now same final agrees empty tries stores =
    let here : Agrees mid after held = subst (λ (n : FileName). Agrees mid n held) (sym same) agrees in
    shows_named new after last now (IsShut 0 []) final
    (record { agrees = tries.agrees here; images = durable_has new after now (IsShut 0 []) (stores.durable here) (make_tells held now empty stores.written) })

-- ---- a resuming

pub gate_there : (b : Bool) (P Q : List ℕ → Type 0) (held : Option (List ℕ)) → b ≡ true → IfSome held (λ d. MatchBool b (P d) (Q d)) → IfSome held P
gate_there b P Q held is gate = subst (λ (v : Bool). IfSome held (λ d. MatchBool v (P d) (Q d))) is gate

pub gate_not_there : (b : Bool) (P Q : List ℕ → Type 0) (held : Option (List ℕ)) → b ≡ false → IfSome held (λ d. MatchBool b (P d) (Q d)) → IfSome held Q
gate_not_there b P Q held is gate = subst (λ (v : Bool). IfSome held (λ d. MatchBool v (P d) (Q d))) is gate

pub durable_named : (disk : Disk) (name after : FileName) (held : Option (List ℕ)) → after ≡ name → IsDurable disk name held → IsDurable disk after held
durable_named disk name after held same durable = subst (λ (n : FileName). IsDurable disk n held) (sym same) durable

pub agrees_named : (disk : Disk) (name after : FileName) (held : Option (List ℕ)) → after ≡ name → Agrees disk name held → Agrees disk after held
agrees_named disk name after held same agrees = subst (λ (n : FileName). Agrees disk n held) (sym same) agrees

-- opened and synced, and then closed at the end
pub resume_run : (end : ℕ) (name after : FileName) (old mid new : Disk) (held : Option (List ℕ)) (bodies : List (List ℕ)) → after ≡ name → NothingNew old mid → IsDurable mid name held
    → (IsDurable mid after held → CrashLeaves mid after (EndsAt end bodies) → Touches after mid new (EndsAt end bodies)) → CrashLeaves old name (EndsAt end bodies) → Touches name old new (EndsAt end bodies)
resume_run end name after old mid new held bodies same opening durable closing leaves =
    let first = run_nothing name old mid (EndsAt end bodies) opening leaves in
    let here : CrashLeaves mid after (EndsAt end bodies) = subst (λ (n : FileName). CrashLeaves mid n (EndsAt end bodies)) (sym same) (at_end name old mid (EndsAt end bodies) first) in
    run_then name old mid new (EndsAt end bodies) first (run_named name after mid new (EndsAt end bodies) same (closing (durable_named mid name after held same durable) here))

pub resume_rests : (end place : ℕ) (name after last : FileName) (old mid new : Disk) (held now : Option (List ℕ)) (bodies : List (List ℕ)) → after ≡ name → last ≡ after → NothingNew old mid → Agrees mid name held → IsDurable mid name held
    → (Agrees mid after held → IsDurable mid after held → CrashLeaves mid after (EndsAt end bodies) → Shows new after now (IsShut place bodies)) → CrashLeaves old name (EndsAt end bodies) → Shows new last now (IsShut place bodies)
resume_rests end place name after last old mid new held now bodies same final opening agrees durable closing leaves =
    let left = at_end name old mid (EndsAt end bodies) (run_nothing name old mid (EndsAt end bodies) opening leaves) in
    shows_named new after last now (IsShut place bodies) final
    (closing (agrees_named mid name after held same agrees) (durable_named mid name after held same durable) (subst (λ (n : FileName). CrashLeaves mid n (EndsAt end bodies)) (sym same) left))

-- how long the file is that the log holds, and where the gate at the end of its records is
module _ (end n place : ℕ) (held : Option (List ℕ)) (bodies : List (List ℕ)) (length_is : IfSome held (λ d. n ≡ length d)) (least : place ≡ min end n) where
  shut_already : (c : List ℕ) → IfSome held (HasShutGate place) → held ≡ Some c → EndsAt end bodies c → IsShut place bodies c
  shut_already c gate is ends =
      let same = end_within end n place bodies c ends (told_given (λ d. n ≡ length d) held c is length_is) least in
      let here = told_given (HasShutGate place) held c is gate in
      subst (λ (k : ℕ). IsShut k bodies c) (sym same) (shut_here end bodies c ends (subst (λ (k : ℕ). HasShutGate k c) same here))

  pub shut_tells : IfSome held (HasShutGate place) → IfSome held (EndsAt end bodies) → IfSome held (IsShut place bodies)
  shut_tells gate ends = by_held held refl ends
    where
      by_held : (o : Option (List ℕ)) → held ≡ o → IfSome o (EndsAt end bodies) → IfSome o (IsShut place bodies)
      by_held None is ends = tt
      by_held (Some c) is ends = shut_already c gate is ends

  closed_at : (d c : List ℕ) → n ≡ length d → EndsAt end bodies d → HasWritten place (0 ∷ []) d c → IsShut place bodies c
  closed_at d c long ends holds =
      let same = end_within end n place bodies d ends long least in
      subst (λ (k : ℕ). IsShut k bodies c) (sym same) (closed_here end bodies d c ends (subst (λ (k : ℕ). HasWritten k (0 ∷ []) d c) same holds))

  -- the gate is written
  module _ (now : Option (List ℕ)) (written : Goes (HasWritten place (0 ∷ [])) held now) where
    pub end_tells : IfSome held (EndsAt end bodies) → IfSome now (IsShut place bodies)
    end_tells ends =
        goes_keeps (HasWritten place (0 ∷ [])) (λ d. (n ≡ length d) × EndsAt end bodies d) (IsShut place bodies) (λ d c both holds. closed_at d c both.0 both.1 holds) held now written
        (told_both (λ d. n ≡ length d) (EndsAt end bodies) (λ d. (n ≡ length d) × EndsAt end bodies d) (λ d long ends. (long, ends)) held length_is ends)

    -- from a file that the log held, with these records up to their end
    abbrev WasEnded : List ℕ → Type 0
    WasEnded c = (d : List ℕ) × ((held ≡ Some d) × EndsAt end bodies d)

    closed_from : (c : List ℕ) → WasEnded c → now ≡ Some c → IsShut place bodies c
    closed_from c was is =
        let d = was.0 in
        let long = told_given (λ e. n ≡ length e) held d was.1.0 length_is in
        let goes : Goes (HasWritten place (0 ∷ [])) (Some d) now = subst (λ (o : Option (List ℕ)). Goes (HasWritten place (0 ∷ [])) o now) was.1.0 written in
        let same : goes.0 ≡ c = cc (goes.1) in
        subst (IsShut place bodies) same (closed_at d goes.0 long was.1.1 goes.2)

  -- on the disk, once it was asked how long the file is and what its gate is
  module _ (name : FileName) (old mid next : Disk) (first : NothingNew old mid) (second : NothingNew mid next) where
    gate_asked : CrashLeaves old name (EndsAt end bodies) → Touches name old next (EndsAt end bodies)
    gate_asked leaves = more_nothing name old mid next (EndsAt end bodies) (run_nothing name old mid (EndsAt end bodies) first leaves) second

    abbrev Held : List ℕ → Type 0
    Held c = held ≡ Some c

    durable_still : IsDurable old name held → CrashLeaves next name Held
    durable_still durable =
        at_end name old next Held (more_nothing name old mid next Held (run_nothing name old mid Held first (record { each = λ c image. durable.only c image })) second)

    agrees_next : Agrees old name held → Agrees next name held
    agrees_next agrees = agrees_still name mid next held held (second.reads name) refl (agrees_still name old mid held held (first.reads name) refl agrees)

    -- what each image is
    abbrev IsEnded : List ℕ → Type 0
    IsEnded c = (held ≡ Some c) × EndsAt end bodies c

    ended : IsDurable old name held → CrashLeaves old name (EndsAt end bodies) → CrashLeaves next name IsEnded
    ended durable leaves =
        let ends = at_end name old next (EndsAt end bodies) (gate_asked leaves) in
        record { each = λ c image. ((durable_still durable).each c image, ends.each c image) }

    pub shut_rests : IfSome held (HasShutGate place) → Agrees old name held → IsDurable old name held → CrashLeaves old name (EndsAt end bodies) → Shows next name held (IsShut place bodies)
    shut_rests gate agrees durable leaves = record {
      agrees = agrees_next agrees;
      images = record { each = λ c image. let is = (ended durable leaves).each c image in shut_already c gate is.0 is.1 };
    }

    -- the gate is written, for it was open or not there
    module _ (new : Disk) (now : Option (List ℕ)) (tries : TriesAt place (0 ∷ []) name next new held now) where
      pub end_torn : IfSome held (HasNoShutGate place) → IsDurable old name held → CrashLeaves old name (EndsAt end bodies) → Touches name old new (EndsAt end bodies)
      end_torn gate durable leaves =
          run_then name old next new (EndsAt end bodies) (gate_asked leaves)
          (run_into name (Torn place 1) next new IsEnded (EndsAt end bodies) tries.disk (ended durable leaves)
          (λ c both. both.1)
          (λ d c both torn.
          let same = end_within end n place bodies d both.1 (told_given (λ e. n ≡ length e) held d both.0 length_is) least in
          let no_gate = subst (λ (k : ℕ). HasNoShutGate k d) same (told_given (HasNoShutGate place) held d both.0 gate) in
          torn_end end bodies d c both.1 no_gate (subst (λ (k : ℕ). Torn k 1 d c) same torn)))

      pub end_rests : Stores place (0 ∷ []) name next new held now → Agrees old name held → IsDurable old name held → CrashLeaves old name (EndsAt end bodies) → Shows new name now (IsShut place bodies)
      end_rests stores agrees durable leaves =
          let was = at_end name next new (WasEnded now stores.written)
          (run_into name (Torn place 1) next new IsEnded (WasEnded now stores.written) tries.disk (ended durable leaves) (λ c both. (c, both)) (λ d c both torn. (d, both))) in
          record {
            agrees = tries.agrees (agrees_next agrees);
            images = record { each = λ c image. closed_from now stores.written c (was.each c image) ((stores.durable (agrees_next agrees)).only c image) };
          }

-- the gate that was written is closed
pub gate_closed : (end n place : ℕ) (held now : Option (List ℕ)) → IfSome held (λ d. n ≡ length d) → place ≡ min end n → Goes (HasWritten place (0 ∷ [])) held now → IfSome now (HasShutGate place)
gate_closed end n place held now length_is least written =
    told_leads (Written place (0 ∷ [])) (HasShutGate place) (λ c stands. gate_written place c stands) now
    (told_written place (0 ∷ []) held now (told_leads (λ d. n ≡ length d) (λ d. place ≤ length d) (λ d long. omega (arith, long, least)) held length_is) written)
