-- How a fault of the bank comes to a writer's caller.
use Rattle.agent_link.specs.declared.fault.Fault.{Fault}
use Rattle.agent_link.specs.declared.fault.Fault.TheVariants.{Failed, NoMemory}
use Rattle.image_store.specs.declared.answers.PutFault.{PutFault}
use Rattle.image_store.specs.declared.answers.PutFault.TheVariants as put

abbrev pub of_bank : Fault → PutFault
of_bank Failed = put.Bank
of_bank NoMemory = put.NoMemory
