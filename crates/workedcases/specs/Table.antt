-- The cases of document 01, section "Cases", that are marked P, and four cases of document 02, change 5: the text of a book, and what is
-- printed for it, byte for byte. The columns that document 01 does not print for a case (segment, price, sample, total without) follow from
-- its rules; what is bought stands after the demand since document 02, change 5.
use Rattle.std.specs.Prelude.{ℕ, List, [], ◌∷◌, ◌++◌}
use Prim.Native.String.{String}
use Rattle.lists.specs.Joined.{joined}
use Rattle.forms.specs.Bytes.{ascii}

-- each line ended by byte 10
abbrev line : String → List ℕ
line l = ascii l ++ ascii "\n"

abbrev pub lines : List String → List ℕ
lines ls = joined line ls

pub record Case : Type 0 where
  pub text : List ℕ
  pub printed : List ℕ

-- "the book" of document 01, with carriage 0 and allowance 0 (document 02, changes 2 and 5), the demand changed, and the fixed price of bidder
-- 3's second segment
abbrev pub book_with : String → String → List ℕ
book_with demand fixed =
    ascii "(demand " ++ ascii demand ++ ascii " 0)\n"
    ++ ascii "(bid 3 0 (seg 1 60 400 0) (seg 61 100 350 " ++ ascii fixed ++ ascii "))\n"
    ++ ascii "(bid 8 0 (seg 20 80 380 1000))\n"
    ++ ascii "(bid 12 0 (seg 120 120 370 0))\n"

abbrev pub the_book : String → List ℕ
the_book demand = book_with demand "-500"

unfoldable pub table : List Case
table =
    record {
      text = the_book "120";
      printed = lines
          ("(award 120 120 43100)"
          ∷ "(buy 3 2 100 34500 20 (without 44400))"
          ∷ "(buy 8 1 20 8600 5 (without 44400))"
          ∷ "(buy 12 0 0 0 0 (without 43100))"
          ∷ []);
    }
    ∷ record {
      text = the_book "19";
      printed = lines
          ("(award 19 19 7600)"
          ∷ "(buy 3 1 19 7600 5 (without none))"
          ∷ "(buy 8 0 0 0 0 (without 7600))"
          ∷ "(buy 12 0 0 0 0 (without 7600))"
          ∷ []);
    }
    ∷ record {
      text = the_book "60";
      printed = lines
          ("(award 60 60 23800)"
          ∷ "(buy 3 0 0 0 0 (without 23800))"
          ∷ "(buy 8 1 60 23800 13 (without 24000))"
          ∷ "(buy 12 0 0 0 0 (without 23800))"
          ∷ []);
    }
    ∷ record {
      text = the_book "61";
      printed = lines
          ("(award 61 61 20850)"
          ∷ "(buy 3 2 61 20850 13 (without 24180))"
          ∷ "(buy 8 0 0 0 0 (without 20850))"
          ∷ "(buy 12 0 0 0 0 (without 20850))"
          ∷ []);
    }
    ∷ record {
      text = the_book "181";
      printed = lines
          ("(award 181 181 65250)"
          ∷ "(buy 3 2 61 20850 13 (without 68580))"
          ∷ "(buy 8 0 0 0 0 (without 65250))"
          ∷ "(buy 12 1 120 44400 20 (without none))"
          ∷ []);
    }
    ∷ record {
      text = the_book "300";
      printed = lines
          ("(award 300 300 110300)"
          ∷ "(buy 3 2 100 34500 20 (without none))"
          ∷ "(buy 8 1 80 31400 13 (without none))"
          ∷ "(buy 12 1 120 44400 20 (without none))"
          ∷ []);
    }
    ∷ record { text = the_book "301"; printed = lines ("(refused 9 0)" ∷ []) }
    -- two bidders with the same segment: the first sells all
    ∷ record {
      text = lines ("(demand 10 0)" ∷ "(bid 1 0 (seg 1 10 5 0))" ∷ "(bid 2 0 (seg 1 10 5 0))" ∷ []);
      printed = lines ("(award 10 10 50)" ∷ "(buy 1 1 10 50 3 (without 50))" ∷ "(buy 2 0 0 0 0 (without 50))" ∷ []);
    }
    -- bidder 12 alone
    ∷ record { text = lines ("(demand 119 0)" ∷ "(bid 12 0 (seg 120 120 370 0))" ∷ []); printed = lines ("(refused 9 0)" ∷ []) }
    -- a price of 0 at the start is accepted, one of -1 is not
    ∷ record {
      text = book_with "120" "-21350";
      printed = lines
          ("(award 120 120 22250)"
          ∷ "(buy 3 2 100 13650 20 (without 44400))"
          ∷ "(buy 8 1 20 8600 5 (without 44400))"
          ∷ "(buy 12 0 0 0 0 (without 22250))"
          ∷ []);
    }
    ∷ record { text = book_with "120" "-21351"; printed = lines ("(refused 8 2)" ∷ []) }
    -- document 02, change 5: a cheaper drum above the demand, by just the allowance and by one more
    ∷ record {
      text = lines ("(demand 100 10)" ∷ "(bid 1 0 (seg 1 100 50 0))" ∷ "(bid 2 0 (seg 110 110 40 0))" ∷ []);
      printed = lines ("(award 100 110 4400)" ∷ "(buy 1 0 0 0 0 (without 4400))" ∷ "(buy 2 1 110 4400 20 (without 5000))" ∷ []);
    }
    ∷ record {
      text = lines ("(demand 100 9)" ∷ "(bid 1 0 (seg 1 100 50 0))" ∷ "(bid 2 0 (seg 110 110 40 0))" ∷ []);
      printed = lines ("(award 100 100 5000)" ∷ "(buy 1 1 100 5000 20 (without none))" ∷ "(buy 2 0 0 0 0 (without 5000))" ∷ []);
    }
    -- blanks that cost nothing are not taken beyond the demand
    ∷ record { text = lines ("(demand 5 3)" ∷ "(bid 1 0 (seg 1 9 0 7))" ∷ []); printed = lines ("(award 5 5 7)" ∷ "(buy 1 1 5 7 2 (without none))" ∷ []) }
    -- at the same cost the fewer blanks, against book order
    ∷ record {
      text = lines ("(demand 5 3)" ∷ "(bid 1 0 (seg 8 8 0 30))" ∷ "(bid 2 0 (seg 6 6 0 30))" ∷ []);
      printed = lines ("(award 5 6 30)" ∷ "(buy 1 0 0 0 0 (without 30))" ∷ "(buy 2 1 6 30 2 (without 30))" ∷ []);
    }
    ∷ []
