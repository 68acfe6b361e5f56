-- The best so far is that of the segments tried, each with every choice for the bidders after, of whom there is one fewer; where a segment
-- is passed over, the search with it would leave the best so far as it is.
use Rattle.std.proofs.Common.{◌≡◌, ◌+◌, arith}
use Rattle.search.proofs.Steps.{choosable}
use Rattle.search.proofs.Turns.{held, choice_of, accepted, none_tried, all_tried, nothing_left, sound, small_before, small_with, addable, testable, turn_done, passed_over, completed, went_on}
use Rattle.search.proofs.Search.+search.Goals as goal

pub returns-then-lost : goal.returns-then-lost
returns-then-lost t c =
    let yes = c.if-lost.true in
    nothing_left c.requires.bounding c.requires.searching c.sums_of-sums.ensures c.args.best (c.lost.ensures.wins_ties yes) (c.lost.ensures.nothing_better yes)

pub overflow_add-count : goal.overflow_add-count
overflow_add-count t c = omega (arith, (accepted c.requires.bounding c.requires.searching).count_high)

pub loop-j-init : goal.loop-j-init
loop-j-init t c = none_tried c.requires.bounding c.requires.searching c.args.best

pub segment_of-s-requires : goal.segment_of-s-requires
segment_of-s-requires t c =
    record { accepted = accepted c.requires.bounding c.requires.searching; within = omega (arith, c.loop-j.invariant.within) }

pub charged-requires : goal.charged-requires
charged-requires t c =
    let s = c.segment_of-s.ensures in
    record {
      sound = sound c.requires.bounding c.requires.searching c.sums_of-sums.ensures _ s.number_in_bounds s.value;
      capped = c.requires.bounding.capped;
    }

pub add-more-requires : goal.add-more-requires
add-more-requires t c =
    let s = c.segment_of-s.ensures in
    addable c.requires.bounding c.requires.searching c.sums_of-sums.ensures _ s.number_in_bounds s.value c.charged.ensures

-- shown of the sums before too, so that the edit that judges by these is refused for what the test then tells
pub hopeless-requires : goal.hopeless-requires
hopeless-requires t c =
    let s = c.segment_of-s.ensures in
    let before = small_before c.requires.bounding c.requires.searching c.sums_of-sums.ensures in
    let with = small_with c.requires.bounding c.requires.searching c.sums_of-sums.ensures _ s.number_in_bounds s.value c.charged.ensures c.add-more.ensures in
    testable c.requires.bounding c.requires.searching (search (before, with))

pub choose-next-requires : goal.choose-next-requires
choose-next-requires t c =
    let s = c.segment_of-s.ensures in
    let asked = c.requires.searching in
    choosable (choice_of c.requires.bounding asked) asked.further (held c.requires.bounding asked) _ _ s.number_in_bounds s.value

pub loop-j-preserved-then-last : goal.loop-j-preserved-then-last
loop-j-preserved-then-last t c =
    let s = c.segment_of-s.ensures in
    let next = c.choose-next.ensures in
    let so_far = c.loop-j.so_far in
    let last : c.args.c.count + 1 ≡ c.args.self.now.book.now.count = omega (arith, c.requires.searching.further) in
    let found_next = completed c.requires.bounding c.requires.searching c.sums_of-sums.ensures _ s.number_in_bounds s.value c.charged.ensures c.add-more.ensures
    c.choose-next.result next.count_value next.result_value so_far c.leaf-so_far.result last c.leaf-so_far.ensures in
    turn_done c.requires.bounding c.requires.searching c.sums_of-sums.ensures _ s.number_in_bounds s.value c.loop-j.j _ (omega arith) c.loop-j.invariant
    found_next

pub loop-j-preserved-else-last : goal.loop-j-preserved-else-last
loop-j-preserved-else-last t c =
    let s = c.segment_of-s.ensures in
    let next = c.choose-next.ensures in
    let so_far = c.loop-j.so_far in
    let found_next = went_on c.requires.bounding c.requires.searching c.sums_of-sums.ensures _ s.number_in_bounds s.value c.charged.ensures c.add-more.ensures
    c.choose-next.result next.count_value next.result_value so_far c.search-so_far.result c.search-so_far.ensures in
    turn_done c.requires.bounding c.requires.searching c.sums_of-sums.ensures _ s.number_in_bounds s.value c.loop-j.j _ (omega arith) c.loop-j.invariant
    found_next

pub loop-j-preserved : goal.loop-j-preserved
loop-j-preserved t c =
    let s = c.segment_of-s.ensures in
    let so_far = c.loop-j.so_far in
    let found_next = passed_over c.requires.bounding c.requires.searching c.sums_of-sums.ensures _ s.number_in_bounds s.value c.charged.ensures
    c.add-more.ensures so_far (c.hopeless.ensures c.if-not-hopeless.false) in
    turn_done c.requires.bounding c.requires.searching c.sums_of-sums.ensures _ s.number_in_bounds s.value c.loop-j.j _ (omega arith) c.loop-j.invariant
    found_next

pub returns : goal.returns
returns t c = all_tried c.requires.bounding c.requires.searching c.args.best c.loop-j.j c.loop-j.so_far (omega arith) c.loop-j.invariant
