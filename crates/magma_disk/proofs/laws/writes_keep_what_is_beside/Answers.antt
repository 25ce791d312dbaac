use Rattle.magma_disk.proofs.Bytes.{overlaid_within}
use Rattle.magma_disk.proofs.Images.{torn_front, torn_back}
use Rattle.magma_disk.proofs.laws.writes_keep_what_is_beside.Goals as goal

pub returns-clause-whole : goal.returns-clause-whole
returns-clause-whole c = λ file piece at within. overlaid_within file at piece within

pub returns-clause-front : goal.returns-clause-front
returns-clause-front c = λ file left at count within torn. torn_front at count file left within torn

pub returns-clause-back : goal.returns-clause-back
returns-clause-back c = λ file left at count within torn. torn_back at count file left within torn
