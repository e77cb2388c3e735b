use Rattle.tw_service.proofs.service.Service.receive.Goals as goal

pub returns : goal.returns
returns g c = record { malformed = c.take_bytes.ensures.malformed; message = c.take_bytes.ensures.message }
