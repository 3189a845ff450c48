use Rattle.dme_line.proofs.OneResponse.{one_response, one_response_reading}
use Rattle.dme_line.proofs.laws.one_response_reading.Goals as goal

pub returns-clause-response : goal.returns-clause-response
returns-clause-response c = one_response

pub returns-clause-reading : goal.returns-clause-reading
returns-clause-reading c = one_response_reading
