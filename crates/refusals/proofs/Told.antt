-- The numbers of an answer tell the answer: two results of a call that have the same numbers are the same result. So that a contract over the numbers
-- of a result leaves one result, and a `Result` says no less than the record of numbers that stands for it in specs/.
use mathlib.Core.Path.{◌≡◌, sym, ap}
use mathlib.Core.List.{List}
use Prim.Native.Nat.{ℕ}
use Rattle.std.specs.Prelude.{Result, Ok, Err, Option, Some, None, IfOk, IfSome, ◌<◌}
use native.Mathlib.Omega.{arith}
use Rattle.refusal.specs.declared.Refusal.{Refusal}
use Rattle.refusal.specs.Refusal.{refusal_in}
use Rattle.refusal.proofs.Numbers.{number-some, one-refusal}
use Rattle.levels.specs.declared.faults.Refused.{Refused}
use Rattle.levels.specs.Faults as counting
use Rattle.reading.specs.declared.Errors.{Errors}
use Rattle.reading.specs.Reading as reading
use Rattle.swap.specs.Swap as swapping
use Rattle.repair.specs.declared.Changes.{Changes}
use Rattle.repair.specs.Repair as repairing
use Rattle.captures.specs.Captures as capturing
use Rattle.engine.specs.declared.refusals.Refusal as plain-refusal
use Rattle.engine.specs.declared.refusals.Refused as plain
use Rattle.engine.specs.declared.Errors as plain-errors
use Rattle.engine.specs.Engine as engine
use Rattle.engine.proofs.Numbers as plain-numbers
use Rattle.multiframe.specs.declared.Refusal as multiframe-refusal
use Rattle.multiframe.specs.declared.Refused as building
use Rattle.multiframe.specs.Calls as multiframes
use Rattle.multiframe.proofs.Numbers as multiframe-numbers
use Rattle.begins.specs.declared.Candidate.{Candidate}
use Rattle.begins.specs.Begins as begins
use Rattle.multiframe_start.specs.Start as starting
use Rattle.naming.specs.declared.PlaceName.{PlaceName}
use Rattle.naming.specs.declared.multiframes.MultiframePlaceName.{MultiframePlaceName}
use Rattle.naming.specs.Frames as frames
use Rattle.naming.specs.Multiframes as naming-multiframes
use Rattle.judge.specs.declared.Judgement.{Judgement}
use Rattle.judge.specs.Verdict as judging

-- multiplexing, extraction and the late multiplexer
pub counted-told : (r s : Result (List ℕ) Refused) → counting.numbers_of r ≡ counting.numbers_of s → r ≡ s
counted-told (Ok x) (Ok y) e = ap (λ (n : List ℕ). Ok n) (ap (λ (c : counting.Counted). c.counts) e)
counted-told (Ok x) (Err g) e = absurd (number-some g.refusal (sym (ap (λ (c : counting.Counted). c.refusal) e)))
counted-told (Err f) (Ok y) e = absurd (number-some f.refusal (ap (λ (c : counting.Counted). c.refusal) e))
counted-told (Err f) (Err g) e =
    let same : f.refusal ≡ g.refusal = one-refusal f.refusal g.refusal (ap (λ (c : counting.Counted). c.refusal) e) in
    let frame : f.frame ≡ g.frame = ap (λ (c : counting.Counted). c.frame) e in
    λ i. Err (record { refusal = same i; frame = frame i })

-- an answer that says nothing but whether it is refused
pub refusal-told : (r s : Result (Unit {0}) Refusal) → refusal_in r ≡ refusal_in s → r ≡ s
refusal-told (Ok x) (Ok y) e = λ i. Ok tt
refusal-told (Ok x) (Err g) e = absurd (number-some g (sym e))
refusal-told (Err f) (Ok y) e = absurd (number-some f e)
refusal-told (Err f) (Err g) e = ap (λ (x : Refusal). Err x) (one-refusal f g e)

-- reading notes
pub noted-told : (r s : Result Errors Refusal) → reading.numbers_of r ≡ reading.numbers_of s → r ≡ s
noted-told (Ok x) (Ok y) e =
    let alignment : x.alignment ≡ y.alignment = ap (λ (n : reading.Noted). n.alignment) e in
    let dissent : x.dissent ≡ y.dissent = ap (λ (n : reading.Noted). n.dissent) e in
    λ i. Ok (record { alignment = alignment i; dissent = dissent i })
noted-told (Ok x) (Err g) e = absurd (number-some g (sym (ap (λ (n : reading.Noted). n.refusal) e)))
noted-told (Err f) (Ok y) e = absurd (number-some f (ap (λ (n : reading.Noted). n.refusal) e))
noted-told (Err f) (Err g) e = ap (λ (x : Refusal). Err x) (one-refusal f g (ap (λ (n : reading.Noted). n.refusal) e))

-- swapping
pub swapped-told : (r s : Result ℕ Refusal) → swapping.numbers_of r ≡ swapping.numbers_of s → r ≡ s
swapped-told (Ok x) (Ok y) e = ap (λ (n : ℕ). Ok n) (ap (λ (a : swapping.Swapped). a.digits) e)
swapped-told (Ok x) (Err g) e = absurd (number-some g (sym (ap (λ (a : swapping.Swapped). a.refusal) e)))
swapped-told (Err f) (Ok y) e = absurd (number-some f (ap (λ (a : swapping.Swapped). a.refusal) e))
swapped-told (Err f) (Err g) e = ap (λ (x : Refusal). Err x) (one-refusal f g (ap (λ (a : swapping.Swapped). a.refusal) e))

-- repairing
pub repaired-told : (r s : Result Changes Refusal) → repairing.numbers_of r ≡ repairing.numbers_of s → r ≡ s
repaired-told (Ok x) (Ok y) e =
    let word : x.word ≡ y.word = ap (λ (a : repairing.Repaired). a.word) e in
    let control : x.control ≡ y.control = ap (λ (a : repairing.Repaired). a.control) e in
    let stuffing : x.stuffing ≡ y.stuffing = ap (λ (a : repairing.Repaired). a.stuffing) e in
    let national : x.national ≡ y.national = ap (λ (a : repairing.Repaired). a.national) e in
    λ i. Ok (record { word = word i; control = control i; stuffing = stuffing i; national = national i })
repaired-told (Ok x) (Err g) e = absurd (number-some g (sym (ap (λ (a : repairing.Repaired). a.refusal) e)))
repaired-told (Err f) (Ok y) e = absurd (number-some f (ap (λ (a : repairing.Repaired). a.refusal) e))
repaired-told (Err f) (Err g) e = ap (λ (x : Refusal). Err x) (one-refusal f g (ap (λ (a : repairing.Repaired). a.refusal) e))

-- writing a capture
pub written-told : (r s : Result ℕ Refusal) → capturing.written_in r ≡ capturing.written_in s → r ≡ s
written-told (Ok x) (Ok y) e = ap (λ (n : ℕ). Ok n) (ap (λ (a : capturing.Written). a.bytes) e)
written-told (Ok x) (Err g) e = absurd (number-some g (sym (ap (λ (a : capturing.Written). a.refusal) e)))
written-told (Err f) (Ok y) e = absurd (number-some f (ap (λ (a : capturing.Written). a.refusal) e))
written-told (Err f) (Err g) e = ap (λ (x : Refusal). Err x) (one-refusal f g (ap (λ (a : capturing.Written). a.refusal) e))

-- the plain multiplexing and extraction
pub answered-told : (r s : Result (List ℕ) plain.Refused) → engine.answered_in r ≡ engine.answered_in s → r ≡ s
answered-told (Ok x) (Ok y) e = ap (λ (n : List ℕ). Ok n) (ap (λ (a : engine.Answered). a.counts) e)
answered-told (Ok x) (Err g) e = absurd (plain-numbers.number-some g.refusal (sym (ap (λ (a : engine.Answered). a.refusal) e)))
answered-told (Err f) (Ok y) e = absurd (plain-numbers.number-some f.refusal (ap (λ (a : engine.Answered). a.refusal) e))
answered-told (Err f) (Err g) e =
    let same : f.refusal ≡ g.refusal = plain-numbers.one-refusal f.refusal g.refusal (ap (λ (a : engine.Answered). a.refusal) e) in
    let frame : f.frame ≡ g.frame = ap (λ (a : engine.Answered). a.frame) e in
    λ i. Err (record { refusal = same i; frame = frame i })

-- the plain reading
pub notes-read-told : (r s : Result plain-errors.Errors plain-refusal.Refusal) → engine.notes_read_in r ≡ engine.notes_read_in s → r ≡ s
notes-read-told (Ok x) (Ok y) e =
    let alignment : x.alignment ≡ y.alignment = ap (λ (a : engine.NotesRead). a.alignment) e in
    let dissent : x.dissent ≡ y.dissent = ap (λ (a : engine.NotesRead). a.dissent) e in
    λ i. Ok (record { alignment = alignment i; dissent = dissent i })
notes-read-told (Ok x) (Err g) e = absurd (plain-numbers.number-some g (sym (ap (λ (a : engine.NotesRead). a.refusal) e)))
notes-read-told (Err f) (Ok y) e = absurd (plain-numbers.number-some f (ap (λ (a : engine.NotesRead). a.refusal) e))
notes-read-told (Err f) (Err g) e = ap (λ (x : plain-refusal.Refusal). Err x) (plain-numbers.one-refusal f g (ap (λ (a : engine.NotesRead). a.refusal) e))

-- building a multiframe
pub built-told : (r s : Result (Unit {0}) building.Refused) → multiframes.numbers_of r ≡ multiframes.numbers_of s → r ≡ s
built-told (Ok x) (Ok y) e = λ i. Ok tt
built-told (Ok x) (Err g) e = absurd (multiframe-numbers.number-some g.refusal (sym (ap (λ (a : multiframes.Built). a.refusal) e)))
built-told (Err f) (Ok y) e = absurd (multiframe-numbers.number-some f.refusal (ap (λ (a : multiframes.Built). a.refusal) e))
built-told (Err f) (Err g) e =
    let same : f.refusal ≡ g.refusal = multiframe-numbers.one-refusal f.refusal g.refusal (ap (λ (a : multiframes.Built). a.refusal) e) in
    let channel : f.channel ≡ g.channel = ap (λ (a : multiframes.Built). a.channel) e in
    λ i. Err (record { refusal = same i; channel = channel i })

-- taking one apart, which answers nothing but whether it is refused
pub apart-told : (r s : Result (Unit {0}) multiframe-refusal.Refusal) → multiframes.refusal_in r ≡ multiframes.refusal_in s → r ≡ s
apart-told (Ok x) (Ok y) e = λ i. Ok tt
apart-told (Ok x) (Err g) e = absurd (multiframe-numbers.number-some g (sym e))
apart-told (Err f) (Ok y) e = absurd (multiframe-numbers.number-some f e)
apart-told (Err f) (Err g) e = ap (λ (x : multiframe-refusal.Refusal). Err x) (multiframe-numbers.one-refusal f g e)

-- where a recording begins
pub begun-told : (r s : Result Candidate Refusal) → begins.numbers_of r ≡ begins.numbers_of s → r ≡ s
begun-told (Ok x) (Ok y) e =
    let at : x.at ≡ y.at = ap (λ (a : begins.Begun). a.at) e in
    let differing : x.differing ≡ y.differing = ap (λ (a : begins.Begun). a.differing) e in
    λ i. Ok (record { at = at i; differing = differing i })
begun-told (Ok x) (Err g) e = absurd (number-some g (sym (ap (λ (a : begins.Begun). a.refusal) e)))
begun-told (Err f) (Ok y) e = absurd (number-some f (ap (λ (a : begins.Begun). a.refusal) e))
begun-told (Err f) (Err g) e = ap (λ (x : Refusal). Err x) (one-refusal f g (ap (λ (a : begins.Begun). a.refusal) e))

-- what a place is
pub placed-told : (r s : Result PlaceName Refusal) → frames.numbers_of r ≡ frames.numbers_of s → r ≡ s
placed-told (Ok x) (Ok y) e =
    let kind : x.kind ≡ y.kind = ap (λ (a : frames.Placed). a.kind) e in
    let tributary : x.tributary ≡ y.tributary = ap (λ (a : frames.Placed). a.tributary) e in
    λ i. Ok (record { kind = kind i; tributary = tributary i })
placed-told (Ok x) (Err g) e = absurd (number-some g (sym (ap (λ (a : frames.Placed). a.refusal) e)))
placed-told (Err f) (Ok y) e = absurd (number-some f (ap (λ (a : frames.Placed). a.refusal) e))
placed-told (Err f) (Err g) e = ap (λ (x : Refusal). Err x) (one-refusal f g (ap (λ (a : frames.Placed). a.refusal) e))

-- what a place of a multiframe is
pub multiframe-placed-told : (r s : Result MultiframePlaceName Refusal) → naming-multiframes.numbers_of r ≡ naming-multiframes.numbers_of s → r ≡ s
multiframe-placed-told (Ok x) (Ok y) e =
    let kind : x.kind ≡ y.kind = ap (λ (a : naming-multiframes.MultiframePlaced). a.kind) e in
    let number : x.number ≡ y.number = ap (λ (a : naming-multiframes.MultiframePlaced). a.number) e in
    λ i. Ok (record { kind = kind i; number = number i })
multiframe-placed-told (Ok x) (Err g) e = absurd (number-some g (sym (ap (λ (a : naming-multiframes.MultiframePlaced). a.refusal) e)))
multiframe-placed-told (Err f) (Ok y) e = absurd (number-some f (ap (λ (a : naming-multiframes.MultiframePlaced). a.refusal) e))
multiframe-placed-told (Err f) (Err g) e = ap (λ (x : Refusal). Err x) (one-refusal f g (ap (λ (a : naming-multiframes.MultiframePlaced). a.refusal) e))

-- judging
pub judged-told : (r s : Result Judgement Refusal) → judging.numbers_of r ≡ judging.numbers_of s → r ≡ s
judged-told (Ok x) (Ok y) e =
    let fits : x.fits ≡ y.fits = ap (λ (a : judging.Judged). a.fits) e in
    let own : x.own ≡ y.own = ap (λ (a : judging.Judged). a.own) e in
    let before : x.before ≡ y.before = ap (λ (a : judging.Judged). a.before) e in
    let after : x.after ≡ y.after = ap (λ (a : judging.Judged). a.after) e in
    let changes : x.changes ≡ y.changes = ap (λ (a : judging.Judged). a.changes) e in
    λ i. Ok (record { fits = fits i; own = own i; before = before i; after = after i; changes = changes i })
judged-told (Ok x) (Err g) e = absurd (number-some g (sym (ap (λ (a : judging.Judged). a.refusal) e)))
judged-told (Err f) (Ok y) e = absurd (number-some f (ap (λ (a : judging.Judged). a.refusal) e))
judged-told (Err f) (Err g) e = ap (λ (x : Refusal). Err x) (one-refusal f g (ap (λ (a : judging.Judged). a.refusal) e))

-- which frame begins the multiframe: it is one of sixteen, where one does
abbrev AmongSixteen : Result (Option ℕ) Refusal → Type 0
AmongSixteen r = IfOk r (λ start. IfSome start (λ frame. frame < 16))

pub started-told : (r s : Result (Option ℕ) Refusal) → AmongSixteen r → AmongSixteen s → starting.numbers_of r ≡ starting.numbers_of s → r ≡ s
started-told (Ok None) (Ok None) x y e = λ i. Ok None
started-told (Ok (Some f)) (Ok (Some g)) x y e = ap (λ (n : ℕ). Ok (Some n)) (ap (λ (a : starting.Started). a.frame) e)
started-told (Ok None) (Ok (Some g)) x y e =
    let same : 16 ≡ g = ap (λ (a : starting.Started). a.frame) e in
    let below : g < 16 = y in
    absurd (omega arith)
started-told (Ok (Some f)) (Ok None) x y e =
    let same : f ≡ 16 = ap (λ (a : starting.Started). a.frame) e in
    let below : f < 16 = x in
    absurd (omega arith)
started-told (Ok p) (Err g) x y e = absurd (number-some g (sym (ap (λ (a : starting.Started). a.refusal) e)))
started-told (Err f) (Ok q) x y e = absurd (number-some f (ap (λ (a : starting.Started). a.refusal) e))
started-told (Err f) (Err g) x y e = ap (λ (r : Refusal). Err r) (one-refusal f g (ap (λ (a : starting.Started). a.refusal) e))
