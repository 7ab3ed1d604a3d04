-- `feed`: where the list or the record's own call refuses the list is left, else the record that was kept is put into its place (Lists).
use native.Mathlib.Omega.{arith}
use borrow.Author.Tests.{eq-eqb, ne_eqb}
use lib.Dec.{eqb}
use mathlib.Core.Path.{◌≡◌, ◌∙◌}
use mathlib.Core.Bool.{true}
use lib.ListN.{length}
use Rattle.records.specs.Rule.{list_refusal}
use Rattle.rack.proofs.Lists.{within, few-lines, fed-here, feed-refused, feed-alone-refused, feed-done}
use Rattle.rack.proofs.feed.Goals as goal

pub returns-then-refusal-ne0 : goal.returns-then-refusal-ne0
returns-then-refusal-ne0 c =
    let a = c.args in
    feed-refused a.records.now a.line a.piece.now a.first a.count _ _ (rw c.list_refusal-refusal.ensures at (ne_eqb _ _ c.if-refusal-ne0.true))
    (c.refuse.ensures.0 ∙ c.list_refusal-refusal.ensures) c.refuse.ensures.1

pub offset_bounds-records-k : goal.offset_bounds-records-k
offset_bounds-records-k c =
    let a = c.args in
    let taken : eqb (list_refusal (length a.records.now) a.line) 0 ≡ true = rw c.list_refusal-refusal.ensures at (eq-eqb _ _ c.if-refusal-ne0.false) in
    omega (arith, within _ _ taken, few-lines _ _ taken)

pub slice_copy_out-feed_record : goal.slice_copy_out-feed_record
slice_copy_out-feed_record c =
    let a = c.args in
    let taken : eqb (list_refusal (length a.records.now) a.line) 0 ≡ true = rw c.list_refusal-refusal.ensures at (eq-eqb _ _ c.if-refusal-ne0.false) in
    within _ _ taken

pub returns-then-no-ne0 : goal.returns-then-no-ne0
returns-then-no-ne0 c =
    let a = c.args in
    let taken : eqb (list_refusal (length a.records.now) a.line) 0 ≡ true = rw c.list_refusal-refusal.ensures at (eq-eqb _ _ c.if-refusal-ne0.false) in
    let is = fed-here a.records.now a.line _ a.piece.now a.first a.count _ _ (within _ _ taken) c.feed_record-fed.ensures in
    feed-alone-refused a.records.now a.line a.piece.now a.first a.count c.feed_record-fed.result c.feed_record-fed.new.answer taken (ne_eqb _ _ c.if-no-ne0.true)
    is.0 is.1

pub offset_bounds-records-k-2 : goal.offset_bounds-records-k-2
offset_bounds-records-k-2 c =
    let a = c.args in
    let taken : eqb (list_refusal (length a.records.now) a.line) 0 ≡ true = rw c.list_refusal-refusal.ensures at (eq-eqb _ _ c.if-refusal-ne0.false) in
    omega (arith, within _ _ taken, few-lines _ _ taken)

pub bounds-records-k : goal.bounds-records-k
bounds-records-k c =
    let a = c.args in
    let taken : eqb (list_refusal (length a.records.now) a.line) 0 ≡ true = rw c.list_refusal-refusal.ensures at (eq-eqb _ _ c.if-refusal-ne0.false) in
    within _ _ taken

pub returns : goal.returns
returns c =
    let a = c.args in
    let taken : eqb (list_refusal (length a.records.now) a.line) 0 ≡ true = rw c.list_refusal-refusal.ensures at (eq-eqb _ _ c.if-refusal-ne0.false) in
    let is = fed-here a.records.now a.line _ a.piece.now a.first a.count _ _ (within _ _ taken) c.feed_record-fed.ensures in
    feed-done a.records.now a.line a.piece.now a.first a.count c.feed_record-fed.result c.feed_record-fed.new.answer taken
    is.0 is.1
