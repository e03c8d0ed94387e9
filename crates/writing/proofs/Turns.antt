-- Entries filed in turn: what they come to, and what a reader of the buffer takes.
use Rattle.std.proofs.Common.{◌≡◌, ℕ, ◌≤◌, List, [], ◌∷◌, ◌++◌, length, take, sym, refl, ap, ◌∙◌, ap₂, subst, arith}
use Rattle.std.proofs.lemmas.List.{append_assoc, append-nil}
use Rattle.rows.specs.Lists.{written}
use Rattle.leaves.specs.declared.entries.Heading.{Heading}
use Rattle.leaves.specs.declared.entries.Entry.{Entry}
use Rattle.leaves.specs.Entries.{entry_bytes}
use Rattle.leaves.specs.Contents.{Contents, entries, bytes_of, encoding, IsLawful}
use Rattle.reading.specs.declared.phases.Phase.{Phase}
use Rattle.reading.specs.declared.phases.Phase.TheVariants.{Opening, Closed}
use Rattle.reading.specs.Grammar.{Run, stays, goes}
use Rattle.reading.specs.Phases.{place_of}
use Rattle.reading.specs.Stepping.{Reading, reading, TakesEntry, TakesAll, ends, takes}
use Rattle.reading.proofs.Steps.{step_place}
use Rattle.reading.proofs.Runs.{run_place}
use Rattle.reading.proofs.Contents.{closing, lawful_run}
use Rattle.writing.specs.Filing.{Files, FilesAll, none, files, IsReadTo, ReadsOn, IsFollowed, FilesWhole, IsWholeInTurn}
use Rattle.writing.proofs.Written.{take_written, written_on, written_none, written_length}

-- entries are taken as well where more bytes follow
more_left : {old new : Reading} {es : List Entry} (xs : List ℕ) → TakesAll old es new
    → TakesAll (reading old.phase (old.left ++ xs)) es (reading new.phase (new.left ++ xs))
more_left xs ends = ends
more_left xs (takes {here = here} {e = e} first all) =
    takes (record
    { step = first.step; split = ap (λ ys. ys ++ xs) first.split ∙ append_assoc (entry_bytes e) here.left xs })
    (more_left xs all)

-- where entries are taken, and one more behind them, all are
take_push : {old here new : Reading} {es : List Entry} {e : Entry} → TakesAll old es here → TakesEntry here e new
    → TakesAll old (es ++ e ∷ []) new
take_push ends last = takes last ends
take_push (takes first all) last = takes first (take_push all last)

module _ {p : Phase} {old : List ℕ} {e : Entry} {q : Phase} {new : List ℕ} (filed : Files p old e q new) where
  -- an entry is filed within the buffer, whose length stays
  pub filed_within : place_of p ≤ length old
  filed_within = omega (arith, step_place filed.step, filed.room)

  pub filed_length : length new ≡ length old
  filed_length =
      ap length filed.bytes
      ∙ written_length old (place_of p) (entry_bytes e) (omega (arith, step_place filed.step, filed.room))

  -- a reader of what was filed before takes it too
  pub reads_on : ReadsOn p old e q new
  reads_on es before =
      let upto : take (place_of q) new ≡ take (place_of p) old ++ entry_bytes e =
      ap₂ take (sym (step_place filed.step)) filed.bytes ∙ take_written old (place_of p) filed_within (entry_bytes e) in
      let last : TakesEntry (reading p (entry_bytes e)) e (reading q []) =
      record { step = filed.step; split = sym (append-nil (entry_bytes e)) } in
      subst (λ xs. TakesAll (reading Opening xs) (es ++ e ∷ []) (reading q [])) (sym upto)
      (take_push (more_left (entry_bytes e) before) last)

-- after entries filed in turn a reader has taken them all
read_all : {p q : Phase} {old new : List ℕ} {es : List Entry} (before : List Entry) → FilesAll p old es q new
    → IsReadTo old before p → IsReadTo new (before ++ es) q
read_all {q = q} {new = new} before none read = subst (λ es. IsReadTo new es q) (sym (append-nil before)) read
read_all {q = q} {new = new} before (files {e = e} {es = es} first all) read =
    subst (λ es. IsReadTo new es q) (append_assoc before (e ∷ []) es)
    (read_all (before ++ e ∷ []) all (reads_on first before read))

pub followed : IsFollowed
followed old new es q filed = read_all [] filed ends

-- the first entry read
pub read_first : {old new : List ℕ} {e : Entry} {q : Phase} → Files Opening old e q new → IsReadTo new (e ∷ []) q
read_first filed = reads_on filed [] ends

-- one entry more filed in turn
pub file_push : {p q s : Phase} {old between new : List ℕ} {es : List Entry} {e : Entry} → FilesAll p old es q between
    → Files q between e s new → FilesAll p old (es ++ e ∷ []) s new
file_push none last = files last none
file_push (files first all) last = files first (file_push all last)

-- entries filed in turn behind others are filed in turn with them
pub file_join : {p q s : Phase} {old between new : List ℕ} {es fs : List Entry} → FilesAll p old es q between
    → FilesAll q between fs s new → FilesAll p old (es ++ fs) s new
file_join none later = later
file_join (files first all) later = files first (file_join all later)

-- entries filed in turn are a run, and write their bytes over the buffer, one after the other
pub record Turned (p : Phase) (old : List ℕ) (es : List Entry) (q : Phase) (new : List ℕ) : Type 0 where
  pub run : Run p es q
  pub room : place_of q ≤ length old
  pub bytes : new ≡ written old (place_of p) (bytes_of es)

pub turned : {p q : Phase} {old new : List ℕ} {es : List Entry} → FilesAll p old es q new → place_of p ≤ length old
    → Turned p old es q new
turned {p = p} {old = old} none within =
    record { run = stays; room = within; bytes = sym (written_none old (place_of p)) }
turned {p = p} {old = old} (files {here = here} {between = between} {e = e} {es = es} first all) within =
    let same = filed_length first in
    let later = turned all (omega (arith, first.room, same)) in
    let at = step_place first.step in
    record {
      run = goes first.step later.run;
      room = omega (arith, later.room, same);
      bytes = later.bytes ∙ ap₂ (λ xs n. written xs n (bytes_of es)) first.bytes (sym at)
          ∙ written_on old (place_of p) within (entry_bytes e) (bytes_of es);
    }

-- a run with room for its bytes can be filed in turn
pub turn_all : {p q : Phase} {es : List Entry} → Run p es q → (old : List ℕ) → place_of q ≤ length old
    → FilesAll p old es q (written old (place_of p) (bytes_of es))
turn_all {p = p} {q = q} stays old room =
    subst (λ xs. FilesAll p old [] q xs) (sym (written_none old (place_of p))) none
turn_all {p = p} {q = q} (goes {q = here} {e = e} {es = es} step run) old room =
    let at = step_place step in
    let after = run_place run in
    let between = written old (place_of p) (entry_bytes e) in
    let first : Files p old e here between = record { step = step; room = omega (arith, after, room); bytes = refl } in
    let same = filed_length first in
    let later = turn_all run between (omega (arith, room, same)) in
    files first (subst (λ xs. FilesAll here between es q xs)
    (ap (λ n. written between n (bytes_of es)) (sym at)
    ∙ written_on old (place_of p) (filed_within first) (entry_bytes e) (bytes_of es)) later)

-- what is filed in turn from the opening to the end is a whole leaf
whole : (old new : List ℕ) (es : List Entry) (h : Heading) (n : ℕ) → FilesAll Opening old es (Closed h n) new
    → FilesWhole old es new
whole old new es h n filed =
    let all = turned filed (omega arith) in
    let c = closing all.run in
    record {
      contents = c.contents;
      lawful = c.lawful;
      same = c.same;
      room = omega (arith, ap (λ fs. length (bytes_of fs)) c.same, run_place all.run, all.room);
      bytes = all.bytes ∙ ap (λ fs. written old 0 (bytes_of fs)) c.same;
    }

-- every leaf for which there is room can be filed in turn
turn : (old : List ℕ) (c : Contents) → IsLawful c → length (encoding c) ≤ length old
    → FilesAll Opening old (entries c) (Closed c.heading (length c.rows)) (written old 0 (encoding c))
turn old c lawful room = let run = lawful_run c lawful in turn_all run old (omega (arith, run_place run, room))

pub whole_in_turn : IsWholeInTurn
whole_in_turn = record { whole = whole; turn = turn }
