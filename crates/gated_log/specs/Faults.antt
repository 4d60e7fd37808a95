-- Why a file was not read, as the store tells it.
use Rattle.kv_base.specs.declared.fault.StoreFault.{StoreFault}
use Rattle.kv_base.specs.declared.fault.StoreFault.TheVariants as store
use Rattle.gated_log.specs.declared.read.ReadFault.{ReadFault}
use Rattle.gated_log.specs.declared.read.ReadFault.TheVariants.{Failed, NoMem}

abbrev pub store_fault : ReadFault → StoreFault
store_fault Failed = store.Failed
store_fault NoMem = store.NoMem
