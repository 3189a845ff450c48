-- The most bytes that written texts have, a line without its end (this profile), and the length of that end.
use Rattle.std.specs.Prelude.{ℕ}

-- the line of a command
abbrev pub command_most : ℕ
command_most = 200

-- the line of a response
abbrev pub response_most : ℕ
response_most = 200

-- the text that a response can hold
abbrev pub text_most : ℕ
text_most = 192

-- the line that a command was received, or is complete
abbrev pub bare_most : ℕ
bare_most = 7

-- the line of a point
abbrev pub data_most : ℕ
data_most = 57

-- the line of the answer to IsHomed
abbrev pub homed_data_most : ℕ
homed_data_most = 18

-- the line of an error
abbrev pub error_most : ℕ
error_most = 68

-- the text of a point
abbrev pub point_most : ℕ
point_most = 49

-- the answer to IsHomed
abbrev pub homed_most : ℕ
homed_most = 10

-- the end of a line
abbrev pub line_end_length : ℕ
line_end_length = 2
