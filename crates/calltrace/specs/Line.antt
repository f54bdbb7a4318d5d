-- A line of the trace as ASCII codes.
use Rattle.std.specs.Prelude.{ℕ, ◌+◌, ◌/◌, ◌%◌, cond, List, [], ◌∷◌, ◌++◌, ltb, eqb}
use Rattle.callcontrol.specs.declared.call.Call.{Call}
use Rattle.callcontrol.specs.declared.call.State.{State}
use Rattle.callcontrol.specs.declared.call.State.TheVariants.{Idle, MoCallSetup, MtCallSetup, CallActive, Wait, CallDisconnect}
use Rattle.callcontrol.specs.Step.{Outcome}
use Rattle.calltrace.specs.declared.line.Line.{Line}

-- a digit's code, for one below 10
abbrev pub code : ℕ → List ℕ
code d = (48 + d) ∷ []

-- a number below 1000 in decimal, with no zero in front
unfoldable pub decimal : ℕ → List ℕ
decimal n =
    cond (ltb n 10) (code n) (cond (ltb n 100) (code (n / 10) ++ code (n % 10)) (code (n / 100) ++ (code (n / 10 % 10) ++ code (n % 10))))

-- IDLE, MO-CALL-SETUP, MT-CALL-SETUP, CALL-ACTIVE, WAIT, CALL-DISCONNECT
abbrev pub name_of : State → List ℕ
name_of Idle = 73 ∷ 68 ∷ 76 ∷ 69 ∷ []
name_of MoCallSetup = 77 ∷ 79 ∷ 45 ∷ 67 ∷ 65 ∷ 76 ∷ 76 ∷ 45 ∷ 83 ∷ 69 ∷ 84 ∷ 85 ∷ 80 ∷ []
name_of MtCallSetup = 77 ∷ 84 ∷ 45 ∷ 67 ∷ 65 ∷ 76 ∷ 76 ∷ 45 ∷ 83 ∷ 69 ∷ 84 ∷ 85 ∷ 80 ∷ []
name_of CallActive = 67 ∷ 65 ∷ 76 ∷ 76 ∷ 45 ∷ 65 ∷ 67 ∷ 84 ∷ 73 ∷ 86 ∷ 69 ∷ []
name_of Wait = 87 ∷ 65 ∷ 73 ∷ 84 ∷ []
name_of CallDisconnect = 67 ∷ 65 ∷ 76 ∷ 76 ∷ 45 ∷ 68 ∷ 73 ∷ 83 ∷ 67 ∷ 79 ∷ 78 ∷ 78 ∷ 69 ∷ 67 ∷ 84 ∷ []

-- answer state plane bytes place
abbrev pub header : List ℕ
header =
    97 ∷ 110 ∷ 115 ∷ 119 ∷ 101 ∷ 114 ∷ 32 ∷ 115 ∷ 116 ∷ 97 ∷ 116 ∷ 101 ∷ 32 ∷ 112 ∷ 108 ∷ 97 ∷ 110 ∷ 101 ∷ 32 ∷ 98 ∷ 121 ∷ 116 ∷ 101 ∷ 115 ∷ 32 ∷ 112 ∷ 108 ∷ 97 ∷ 99 ∷ 101 ∷ 10 ∷ []

-- five words with a space between, and a line end
unfoldable pub line_of : ℕ → State → ℕ → ℕ → ℕ → List ℕ
line_of answer state plane count place =
    code answer ++ ((32 ∷ []) ++ (name_of state ++ ((32 ∷ []) ++ (decimal plane ++ ((32 ∷ []) ++ (decimal count ++ ((32 ∷ []) ++ (decimal place ++ (10 ∷ [])))))))))

-- the most bytes that a line takes: the header's
abbrev pub line_most : ℕ
line_most = 31

abbrev pub line_bytes : Line → List ℕ
line_bytes l = line_of l.answer l.state l.plane l.count l.place

-- the answer, the state and the plane of the record given back, the count of bytes written, and the place that comes with 4
abbrev pub line_for : Outcome → List ℕ
line_for o = line_of o.answer o.call.state o.call.plane o.count o.place

-- the last line, of a record that is cut or has a length under 4: answer 2, the state and plane held, 0 bytes and no place
abbrev pub last_line : Call → List ℕ
last_line c = line_of 2 c.state c.plane 0 0

-- at the end of the input, by how many bytes of a record that is not whole are left
abbrev pub end_lines : ℕ → Call → List ℕ
end_lines rest c = cond (eqb rest 0) [] (last_line c)
