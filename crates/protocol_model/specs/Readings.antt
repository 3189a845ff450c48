-- What each line and each data text is read as: the one result that its relation allows (I++ DME Interface version 1; the faults: this
-- profile). How they are computed does not matter to anyone: all that is known of them is the law of each.
use Rattle.std.specs.Prelude.{ℕ, Bool, List, Result}
use Rattle.fixed_um.specs.declared.lengths.Point.{Point}
use Rattle.dme_line.specs.CommandText.{ReadsCommand}
use Rattle.dme_line.specs.Homed.{ReadsHomed}
use Rattle.dme_line.specs.Points.{ReadsPoint}
use Rattle.dme_line.specs.Responses.{ReadsResponse}
use Rattle.dme_line.specs.declared.tags.Tag.{Tag}
use Rattle.dme_line.specs.declared.commands.Command.{Command}
use Rattle.dme_line.specs.declared.reading.LineFault.{LineFault}
use Rattle.dme_line.specs.declared.responses.Response.{Response}
use Rattle.dme_line.specs.declared.responses.NotResponse.{NotResponse}
use Rattle.dme_line.specs.declared.points.NotPoint.{NotPoint}
use Rattle.dme_line.specs.declared.homed.NotHomedText.{NotHomedText}
use Rattle.dme_line.proofs.Readings.{command_reading, response_reading, point_reading, homed_reading}

-- the command of a line with its tag, or the fault that is due
pub command_of : List ℕ → Result (Tag × Command) LineFault
command_of line = (command_reading line).result

-- the response that a line is, if it is one
pub response_of : List ℕ → Result Response NotResponse
response_of line = (response_reading line).result

-- the point that a data text is, if it is one
pub point_of : List ℕ → Result Point NotPoint
point_of text = (point_reading text).result

-- whether the machine is homed, by the data text that answers IsHomed, or that it is not such a text
pub homed_of : List ℕ → Result Bool NotHomedText
homed_of text = (homed_reading text).result

-- each is a reading of its line or text
pub reads_command : (line : List ℕ) → ReadsCommand line (command_of line)
unfolding command_of
reads_command line = (command_reading line).reads

pub reads_response : (line : List ℕ) → ReadsResponse line (response_of line)
unfolding response_of
reads_response line = (response_reading line).reads

pub reads_point : (text : List ℕ) → ReadsPoint text (point_of text)
unfolding point_of
reads_point text = (point_reading text).reads

pub reads_homed : (text : List ℕ) → ReadsHomed text (homed_of text)
unfolding homed_of
reads_homed text = (homed_reading text).reads
