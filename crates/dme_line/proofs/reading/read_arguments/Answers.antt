use Rattle.dme_line.proofs.reading.read_arguments.Goals as goal

pub returns-in-GoTo-clause-read : goal.returns-in-GoTo-clause-read
returns-in-GoTo-clause-read c = rw c.in-GoTo.is c.read_go_to.ensures

pub returns-in-PtMeas-clause-read : goal.returns-in-PtMeas-clause-read
returns-in-PtMeas-clause-read c = rw c.in-PtMeas.is c.read_pt_meas.ensures

pub returns-in-ChangeTool-clause-read : goal.returns-in-ChangeTool-clause-read
returns-in-ChangeTool-clause-read c = rw c.in-ChangeTool.is c.read_change_tool.ensures.read

pub returns-in-SetCsyTransformation-clause-read : goal.returns-in-SetCsyTransformation-clause-read
returns-in-SetCsyTransformation-clause-read c = rw c.in-SetCsyTransformation.is c.read_set_csy_transformation.ensures

pub returns-in-SetCoordSystem-clause-read : goal.returns-in-SetCoordSystem-clause-read
returns-in-SetCoordSystem-clause-read c = rw c.in-SetCoordSystem.is c.read_set_coord_system.ensures
