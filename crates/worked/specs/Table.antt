-- The worked sheets. The figures are those of an independent evaluator; written by tools/worked.py, not by hand.
use Rattle.std.specs.Prelude.{List, [], ◌∷◌}
use Rattle.worked.specs.Rows.{Row, row, sheet, limits, figures}

-- each sheet in one line, with the limits of its run and what the run comes to
abbrev pub table : List Row
table =
    -- a number is printed
    row (sheet "set r0 7/print r0/stop") (limits 48 16 7)
    (figures (sheet "7/") 0 3 0 0) ∷
    -- a return with no frame ends the run
    row (sheet "ret") (limits 48 16 7)
    (figures (sheet "") 0 2 0 0) ∷
    -- running off the end
    row (sheet "set r0 1") (limits 48 16 7)
    (figures (sheet "") 34 1 0 0) ∷
    -- a continuation for many throws is thrown to again
    row (sheet "proc r1 got/cc r1/print r0/load r2 g1/zero r2 more/stop/:more/set r2 1/store g1 r2/load r1 g0/set r0 6/tail r1/:got/store g0 r0/set r0 5/ret") (limits 48 16 7)
    (figures (sheet "5/6/") 0 20 0 0) ∷
    -- a one-shot was used up by the return past its mark
    row (sheet "proc r1 got/cc1 r1/print r0/load r2 g1/zero r2 more/stop/:more/set r2 1/store g1 r2/load r1 g0/set r0 6/tail r1/:got/store g0 r0/set r0 5/ret") (limits 48 16 7)
    (figures (sheet "5/") 33 15 0 0) ∷
    -- calls without end meet the frame limit
    row (sheet ":f/proc r1 f/call r1") (limits 48 16 7)
    (figures (sheet "") 40 97 0 0) ∷
    -- captures without end meet the held limit
    row (sheet ":f/proc r1 f/cc r1") (limits 48 16 2)
    (figures (sheet "") 42 5 0 0) ∷
    -- a throw out of a wind calls its after
    row (sheet "proc r1 go/cc r1/stop/:go/store g0 r0/proc r1 a/proc r2 b/proc r3 c/wind r1 r2 r3/ret/:a/set r4 1/print r4/ret/:b/load r5 g0/tail r5/:c/set r4 3/print r4/ret") (limits 48 16 7)
    (figures (sheet "1/3/") 0 21 1 1) ∷
    -- a throw into a wind from outside calls its before, and its body goes on from there
    row (sheet "proc r1 a/proc r2 b/proc r3 c/wind r1 r2 r3/load r1 g1/zero r1 more/stop/:more/set r1 1/store g1 r1/load r1 g0/set r0 9/tail r1/:a/set r4 1/print r4/ret/:b/proc r1 got/cc r1/print r0/ret/:got/store g0 r0/set r0 2/ret/:c/set r4 3/print r4/ret") (limits 48 16 7)
    (figures (sheet "1/2/3/1/9/3/") 0 47 2 2) ∷
    -- the body's value is back in r0 after an after that changed it
    row (sheet "proc r1 a/proc r2 b/wind r1 r2 r1/print r0/stop/:a/set r0 8/print r0/ret/:b/set r0 4/ret") (limits 48 16 7)
    (figures (sheet "8/8/4/") 0 17 1 1) ∷
    -- a capture under a one-shot's mark promotes it, and it is thrown to twice
    row (sheet "proc r1 f/cc1 r1/print r0/load r2 g1/set r3 1/add r2 r2 r3/store g1 r2/set r3 2/less r4 r2 r3/zero r4 end/load r1 g0/set r0 7/tail r1/:end/load r1 g0/set r0 8/load r2 g2/zero r2 last/stop/:last/set r2 1/store g2 r2/tail r1/:f/store g0 r0/proc r1 g/cc r1/ret/:g/set r0 5/ret") (limits 48 16 7)
    (figures (sheet "5/7/8/") 0 54 0 0) ∷
    -- without that capture the second throw finds it used up
    row (sheet "proc r1 f/cc1 r1/print r0/load r1 g0/set r0 8/tail r1/:f/store g0 r0/set r0 7/load r1 g0/tail r1") (limits 48 16 7)
    (figures (sheet "7/") 33 12 0 0) ∷
    -- winds without end meet the wind limit
    row (sheet "proc r1 a/:b/proc r2 b/wind r1 r2 r1/:a/ret") (limits 48 4 7)
    (figures (sheet "") 41 20 4 0) ∷
    -- where winds have room enough, the frames of winds without end meet their limit
    row (sheet "proc r1 a/:b/proc r2 b/wind r1 r2 r1/:a/ret") (limits 16 8 7)
    (figures (sheet "") 40 34 8 0) ∷
    -- a sum out of range
    row (sheet "set r1 2147483647/set r2 1/print r1/add r1 r1 r2/print r1") (limits 48 16 7)
    (figures (sheet "2147483647/") 31 3 0 0) ∷
    -- a difference at the least number
    row (sheet "set r1 -2147483647/set r2 1/sub r1 r1 r2/print r1/sub r1 r1 r2") (limits 48 16 7)
    (figures (sheet "-2147483648/") 31 4 0 0) ∷
    -- a forgotten continuation is not held
    row (sheet "proc r1 f/cc r1/stop/:f/forget r0/call r0") (limits 48 16 7)
    (figures (sheet "") 33 4 0 0) ∷
    -- forgetting twice
    row (sheet "proc r1 f/cc r1/stop/:f/forget r0/forget r0") (limits 48 16 7)
    (figures (sheet "") 33 3 0 0) ∷
    -- a throw out of two winds calls the inner after first
    row (sheet "proc r1 f/cc r1/print r0/stop/:f/store g0 r0/proc r1 n/proc r2 b/proc r3 x/wind r1 r2 r3/:n/ret/:b/proc r1 n/proc r2 d/proc r3 y/wind r1 r2 r3/ret/:d/load r1 g0/set r0 6/call r1/:x/set r4 1/print r4/ret/:y/set r4 2/print r4/ret") (limits 48 16 7)
    (figures (sheet "2/1/6/") 0 32 2 2) ∷
    -- winds of equal procedures are two: a throw from one to the other leaves the one and enters the other
    row (sheet "proc r1 a/proc r2 b/proc r3 c/wind r1 r2 r3/wind r1 r2 r3/stop/:a/set r4 1/print r4/ret/:c/set r4 3/print r4/ret/:b/load r5 g1/zero r5 first/set r6 0/store g1 r6/load r7 g0/set r0 2/call r7/:first/set r5 1/store g1 r5/proc r7 got/cc r7/print r0/ret/:got/store g0 r0/set r0 4/ret") (limits 48 16 7)
    (figures (sheet "1/4/3/1/3/1/2/3/1/4/3/") 0 82 4 4) ∷
    -- an after runs when its wind has been left: a throw from it does not call it again
    row (sheet "proc r1 f/cc r1/print r0/stop/:f/store g0 r0/proc r1 n/proc r2 n/proc r3 x/wind r1 r2 r3/:n/ret/:x/set r4 5/print r4/load r1 g0/set r0 1/call r1") (limits 48 16 7)
    (figures (sheet "5/1/") 0 20 1 1) ∷
    -- a pop finds a frame that is no value
    row (sheet "proc r1 f/call r1/:f/pop r2") (limits 48 16 7)
    (figures (sheet "") 32 2 0 0) ∷
    -- a return to a pushed value
    row (sheet "push r0/ret") (limits 48 16 7)
    (figures (sheet "") 32 2 0 0) ∷
    -- a kind that is no number
    row (sheet "proc r1 f/:f/print r1") (limits 48 16 7)
    (figures (sheet "") 30 1 0 0) ∷
    -- a frame store that is too low
    row (sheet "stop") (limits 15 16 7)
    (figures (sheet "") 43 0 0 0) ∷
    -- a wind store that is too low
    row (sheet "stop") (limits 48 3 7)
    (figures (sheet "") 43 0 0 0) ∷
    -- stores for one name
    row (sheet "stop") (limits 48 16 1)
    (figures (sheet "") 43 0 0 0) ∷
    -- the least limits
    row (sheet "stop") (limits 16 4 2)
    (figures (sheet "") 0 1 0 0) ∷
    []
